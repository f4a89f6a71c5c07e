-- An item put at its place among others that ascend.
use Rattle.std.proofs.Common.{◌≡◌, ℕ, zero, suc, ◌+◌, ◌<◌, ◌≤◌, ◌⊎◌, ◌↔◌, inl, inr, List, [], ◌∷◌, ◌++◌, ◌-◌, length, get_or, refl, sym, ◌∙◌}
use Rattle.std.proofs.Common.{ap, subst, arith, Contains, slice_get, Some, Ok, Err}
use Rattle.std.specs.List.{insert}
use Rattle.std.specs.List.Sorted.{IsStrictlySortedBy, IsBinarySearchResult, IsNonDecreasingBy}
use Rattle.std.specs.Ordering.{nat_cmp, ordering_reverse, ordering_index}
use Rattle.std.specs.declared.cmp.Ordering.{Ordering}
use Rattle.std.specs.declared.cmp.Ordering.TheVariants.{Less, Equal, Greater}
use Rattle.std.proofs.lemmas.List.Sorted.{searchable_from_sorted}
use Rattle.std.proofs.lemmas.Map.Keys.{Less-from_sorted}
use Rattle.std.proofs.lemmas.Bool.{cases_eq}
use Rattle.std.proofs.lemmas.Option.{get_or_from_slice_get}
use Rattle.std.proofs.lemmas.Map.Lookups.{exact_unsigned}
use Rattle.forest.proofs.Ascending.{same_list, contains_here, contains_there, contains_cases}
use Rattle.forest.proofs.Orderings.{then_equal}
use Rattle.edit_log.proofs.PlainLists.{each_contained, all_contained, all_also}
use Rattle.item_sets.specs.declared.item.Item.{Item}
use Rattle.item_sets.specs.Orders.{item_cmp, placed, with_item}
use Rattle.item_sets.specs.Prefixes.{item_at}
use Rattle.item_sets.proofs.Kernels.{item_cmp_total}
use Rattle.item_sets.proofs.Positions.{number_same}

pub same_item : (a b : Item) → a.rule ≡ b.rule → a.dot ≡ b.dot → a ≡ b
same_item a b e f = ap (λ k. item_at k a.dot) e ∙ ap (λ d. item_at b.rule d) f

equal_items : (a b : Item) → item_cmp a b ≡ Equal → a ≡ b
equal_items a b e =
    let both = then_equal (nat_cmp a.rule.0 b.rule.0) (nat_cmp a.dot b.dot) e in
    same_item a b (number_same a.rule b.rule (exact_unsigned _ _ both.0)) (exact_unsigned _ _ both.1)

flipped : (a b : Item) (o : Ordering) → item_cmp a b ≡ o → item_cmp b a ≡ ordering_reverse o
flipped a b o e = item_cmp_total.antisymm b a ∙ ap ordering_reverse e

pub one_ascends : (item : Item) → IsStrictlySortedBy item_cmp (item ∷ [])
unfolding IsStrictlySortedBy
one_ascends item = (tt, tt)

-- ---- what is there then

pub with_item_members : (item : Item) (items : List Item) (other : Item) → Contains (with_item item items) other ↔ (Contains items other ⊎ (item ≡ other))
with_item_members item [] other = (
  λ c. elim (contains_cases item [] other c) [ inl e ↦ inr e | inr d ↦ inl d ],
  λ either. elim either [ inl c ↦ absurd (omega (arith, c.1)) | inr e ↦ subst (Contains (item ∷ [])) e (contains_here item []) ],
)
with_item_members item (first ∷ rest) other = by (item_cmp item first) refl (with_item_members item rest other)
  where
    by : (o : Ordering) → item_cmp item first ≡ o → (Contains (with_item item rest) other ↔ (Contains rest other ⊎ (item ≡ other)))
        → Contains (placed o item first rest (with_item item rest)) other ↔ (Contains (first ∷ rest) other ⊎ (item ≡ other))
    by Less e rec = (
      λ c. elim (contains_cases item (first ∷ rest) other c) [ inl f ↦ inr f | inr d ↦ inl d ],
      λ either. elim either [
        | inl c ↦ contains_there item (first ∷ rest) other c
        | inr f ↦ subst (Contains (item ∷ first ∷ rest)) f (contains_here item (first ∷ rest))
      ],
    )
    by Equal e rec = (
      λ c. inl c,
      λ either. elim either [ inl c ↦ c | inr f ↦ subst (Contains (first ∷ rest)) (sym (equal_items item first e) ∙ f) (contains_here first rest) ],
    )
    by Greater e rec = (
      λ c. elim (contains_cases first (with_item item rest) other c) [
        | inl f ↦ inl (subst (Contains (first ∷ rest)) f (contains_here first rest))
        | inr d ↦ elim (rec.0 d) [ inl k ↦ inl (contains_there first rest other k) | inr f ↦ inr f ]
      ],
      λ either. elim either [
        | inl c ↦ elim (contains_cases first rest other c) [
          | inl f ↦ subst (Contains (first ∷ with_item item rest)) f (contains_here first (with_item item rest))
          | inr d ↦ contains_there first (with_item item rest) other (rec.1 (inl d))
        ]
        | inr f ↦ contains_there first (with_item item rest) other (rec.1 (inr f))
      ],
    )

pub with_item_ascends : (item : Item) (items : List Item) → IsStrictlySortedBy item_cmp items → IsStrictlySortedBy item_cmp (with_item item items)
unfolding IsStrictlySortedBy
with_item_ascends item [] s = (tt, tt)
with_item_ascends item (first ∷ rest) s = by (item_cmp item first) refl (with_item_ascends item rest s.1)
  where
    by : (o : Ordering) → item_cmp item first ≡ o → IsStrictlySortedBy item_cmp (with_item item rest)
        → IsStrictlySortedBy item_cmp (placed o item first rest (with_item item rest))
    by Less e rec = ((e, all_also _ _ rest (λ other less. item_cmp_total.trans item first other e less) s.0), s)
    by Equal e rec = s
    by Greater e rec = (
      all_contained _ (with_item item rest) (λ other c. elim ((with_item_members item rest other).0 c) [
        | inl d ↦ each_contained (λ y. item_cmp first y ≡ Less) rest other s.0 d
        | inr f ↦ subst (λ y. item_cmp first y ≡ Less) f (flipped item first Greater e)
      ]),
      rec,
    )

-- ---- as a binary search finds its place

module _ (item : Item) (items : List Item) (sorted : IsStrictlySortedBy item_cmp items) where
  along : IsNonDecreasingBy (λ y. ordering_index (item_cmp y item)) items
  along = searchable_from_sorted item_cmp_total (λ (y : Item). y) items item (λ k d low within.
      let less = Less-from_sorted item_cmp items k (k + 1) d sorted (omega arith) (omega arith) in
      rw (flipped (get_or items k d) (get_or items (k + 1) d) Less less) refl)

  pub already : (at : ℕ) → at < length items → IsBinarySearchResult (λ y. item_cmp y item) items (Ok at) → with_item item items ≡ items
  already at within h =
      let there : Contains items item = (at, within, equal_items (get_or items at item) item (h item)) in
      same_list item_cmp item_cmp_total (with_item item items) items (with_item_ascends item items sorted) sorted
      (λ other c. elim ((with_item_members item items other).0 c) [ inl d ↦ d | inr e ↦ subst (Contains items) e there ])
      (λ other c. (with_item_members item items other).1 (inl c))

inserted_between : (item : Item) (items : List Item) (at : ℕ) → at ≤ length items → ((k : ℕ) (d : Item) → k < at → item_cmp (get_or items k d) item ≡ Less)
    → ((k : ℕ) (d : Item) → at ≤ k → k < length items → item_cmp (get_or items k d) item ≡ Greater) → insert items at item ≡ with_item item items
inserted_between item [] zero within below above = refl
inserted_between item [] (suc at) within below above = absurd (omega (arith, within))
inserted_between item (first ∷ rest) zero within below above =
    let less : item_cmp item first ≡ Less = flipped first item Greater (above 0 first (omega arith) (omega arith)) in rw less refl
inserted_between item (first ∷ rest) (suc at) within below above =
    let more : item_cmp item first ≡ Greater = flipped first item Less (below 0 first (omega arith)) in
    rw more (ap (λ later. first ∷ later)
    (inserted_between item rest at (omega (arith, within)) (λ k d l. below (suc k) d (omega (arith, l)))
    (λ k d l m. above (suc k) d (omega (arith, l)) (omega (arith, m)))))

pub inserted : (item : Item) (items : List Item) → IsStrictlySortedBy item_cmp items → (at : ℕ) → at ≤ length items
    → IsBinarySearchResult (λ y. item_cmp y item) items (Err at)
    → insert items at item ≡ with_item item items
inserted item items sorted at within h =
    let parts = h (along item items sorted) in
    inserted_between item items at within (λ k d l. parts.0 k d (omega arith) l) (λ k d l m. parts.1 k d l m)

-- ---- behind all others

behind_all : (item : Item) (items : List Item) → ((other : Item) → Contains items other → item_cmp other item ≡ Less)
    → items ++ item ∷ [] ≡ with_item item items
behind_all item [] below = refl
behind_all item (first ∷ rest) below =
    let more : item_cmp item first ≡ Greater = flipped first item Less (below first (contains_here first rest)) in
    rw more (ap (λ later. first ∷ later) (behind_all item rest (λ other c. below other (contains_there first rest other c))))

pub behind_last : (item : Item) (items : List Item) → IsStrictlySortedBy item_cmp items → (last : Item) → slice_get items (length items - 1) ≡ Some last
    → item_cmp last item ≡ Less → items ++ item ∷ [] ≡ with_item item items
behind_last item items sorted last at less = behind_all item items (λ other (k, within, is). elim (cases_eq k (length items - 1)) [
  | inl e ↦
      let same : last ≡ other = sym (get_or_from_slice_get items (length items - 1) last other at) ∙ ap (λ n. get_or items n other) (sym e) ∙ is in
      subst (λ o. item_cmp o item ≡ Less) same less
  | inr n ↦
      let low : item_cmp (get_or items k other) (get_or items (length items - 1) other) ≡ Less =
      Less-from_sorted item_cmp items k (length items - 1) other sorted (omega (arith, within, n)) (omega (arith, within)) in
      let lower : item_cmp other last ≡ Less = subst (λ o. item_cmp o last ≡ Less) is
      (subst (λ o. item_cmp (get_or items k other) o ≡ Less) (get_or_from_slice_get items (length items - 1) last other at) low) in
      item_cmp_total.trans other last item lower less
])
