-- Where a kernel has a move on a symbol, there is a list of it: it cannot be that none is.
use Rattle.std.proofs.Common.{◌≡◌, ℕ, suc, ◌⊎◌, inl, inr, List, [], ◌∷◌, ◌++◌, map, refl, sym, ◌∙◌, ap, subst, Contains}
use Rattle.std.specs.List.{AllByRecursion}
use Rattle.std.specs.List.Sorted.{IsStrictlySortedBy}
use Rattle.std.specs.Ordering.{nat_cmp, ordering_then, ordering_reverse}
use Rattle.std.specs.declared.cmp.Ordering.{Ordering}
use Rattle.std.specs.declared.cmp.Ordering.TheVariants.{Less, Equal, Greater}
use Rattle.std.proofs.lemmas.Map.Lookups.{exact_unsigned}
use Rattle.std.proofs.lemmas.List.Elements.{Contains-append_left, Contains-append_right}
use Rattle.forest.specs.declared.symbols.SymbolId.{SymbolId}
use Rattle.forest.specs.declared.rules.RuleId.{RuleId}
use Rattle.forest.specs.declared.rules.Rule.{Rule}
use Rattle.edit_log.proofs.PlainLists.{all_contained, each_contained, contains_map}
use Rattle.edit_log.proofs.DefinitionOrder.{contains_first, contains_later, contains_cases, contains_none}
use Rattle.item_sets.specs.declared.item.Item.{Item}
use Rattle.item_sets.specs.Orders.{item_cmp}
use Rattle.item_sets.specs.Prefixes.{item_at, IsListOf}
use Rattle.item_sets.specs.Expansions.{own, added, InMove, past, HasMove, IsMoveOf}
use Rattle.item_sets.proofs.Kernels.{item_cmp_total}

-- ---- one item more in an ascending list

equal_then : (o p : Ordering) → ordering_then o p ≡ Equal → (o ≡ Equal) × (p ≡ Equal)
equal_then Less p e = absurd cc
equal_then Equal p e = (refl, e)
equal_then Greater p e = absurd cc

same_item : (a b : Item) → item_cmp a b ≡ Equal → a ≡ b
same_item a b e =
    let both = equal_then (nat_cmp a.rule.0 b.rule.0) (nat_cmp a.dot b.dot) e in
    let rule = exact_unsigned a.rule.0 b.rule.0 both.0 in
    let dot = exact_unsigned a.dot b.dot both.1 in
    (λ i. record { rule = record { 0 = rule i }; dot = dot i })

abbrev placed : Ordering → Item → Item → List Item → List Item → List Item
placed Less c y ys more = c ∷ y ∷ ys
placed Equal c y ys more = y ∷ ys
placed Greater c y ys more = y ∷ more

with_item : Item → List Item → List Item
with_item c [] = c ∷ []
with_item c (y ∷ ys) = placed (item_cmp c y) c y ys (with_item c ys)

record IsWithItem (c : Item) (old new : List Item) : Type 0 where
  has : Contains new c
  kept : (z : Item) → Contains old z → Contains new z
  only : (z : Item) → Contains new z → (c ≡ z) ⊎ Contains old z

with_item-members : (c : Item) (xs : List Item) → IsWithItem c xs (with_item c xs)
unfolding with_item
with_item-members c [] = record {
  has = contains_first c [];
  kept = λ z h. absurd (contains_none z h);
  only = λ z h. contains_cases c [] z h;
}
with_item-members c (y ∷ ys) = by (item_cmp c y) refl (with_item-members c ys)
  where
    by : (o : Ordering) → item_cmp c y ≡ o → IsWithItem c ys (with_item c ys) → IsWithItem c (y ∷ ys) (placed o c y ys (with_item c ys))
    by Less e rest = record { has = contains_first c (y ∷ ys); kept = λ z h. contains_later c (y ∷ ys) z h; only = λ z h. contains_cases c (y ∷ ys) z h }
    by Equal e rest = record { has = subst (Contains (y ∷ ys)) (sym (same_item c y e)) (contains_first y ys); kept = λ z h. h; only = λ z h. inr h }
    by Greater e rest = record {
      has = contains_later y (with_item c ys) c rest.has;
      kept = λ z h. elim (contains_cases y ys z h) [
        | inl same ↦ subst (Contains (y ∷ with_item c ys)) same (contains_first y (with_item c ys))
        | inr d ↦ contains_later y (with_item c ys) z (rest.kept z d)
      ];
      only = λ z h. elim (contains_cases y (with_item c ys) z h) [
        | inl same ↦ inr (subst (Contains (y ∷ ys)) same (contains_first y ys))
        | inr d ↦ elim (rest.only z d) [ inl e ↦ inl e | inr f ↦ inr (contains_later y ys z f) ]
      ];
    }

with_item-ascends : (c : Item) (xs : List Item) → IsStrictlySortedBy item_cmp xs → IsStrictlySortedBy item_cmp (with_item c xs)
unfolding with_item IsStrictlySortedBy
with_item-ascends c [] sorted = (tt, tt)
with_item-ascends c (y ∷ ys) sorted = by (item_cmp c y) refl (with_item-ascends c ys sorted.1)
  where
    by : (o : Ordering) → item_cmp c y ≡ o → IsStrictlySortedBy item_cmp (with_item c ys) → IsStrictlySortedBy item_cmp (placed o c y ys (with_item c ys))
    by Less e rest = (
      (
        e,
        all_contained (λ z. item_cmp c z ≡ Less) ys (λ z d. item_cmp_total.trans c y z e (each_contained (λ z. item_cmp y z ≡ Less) ys z sorted.0 d)),
      ),
      sorted,
    )
    by Equal e rest = sorted
    by Greater e rest =
        let less : item_cmp y c ≡ Less = item_cmp_total.antisymm y c ∙ ap ordering_reverse e in (
          all_contained (λ z. item_cmp y z ≡ Less) (with_item c ys) (λ z d. elim ((with_item-members c ys).only z d) [
            | inl same ↦ subst (λ w. item_cmp y w ≡ Less) same less
            | inr f ↦ each_contained (λ z. item_cmp y z ≡ Less) ys z sorted.0 f
          ]),
          rest,
        )

-- ---- the items of a set among some

record IsListWithin (L C : List Item) (S : Item → Type 0) : Type 0 where
  ascends : IsStrictlySortedBy item_cmp L
  within : (z : Item) → Contains L z → S z
  whole : (z : Item) → Contains C z → S z → Contains L z

either : {P : Type 0} → ((P ⊎ (P → ⊥)) → ⊥) → ⊥
either none = none (inr (λ p. none (inl p)))

listed : (S : Item → Type 0) (C : List Item) → (((L : List Item) × IsListWithin L C S) → ⊥) → ⊥
unfolding IsStrictlySortedBy
listed S [] none = none ([], record { ascends = tt; within = λ z h. absurd (contains_none z h); whole = λ z h s. absurd (contains_none z h) })
listed S (c ∷ C) none = listed S C (λ (L, l). either (λ (inside : S c ⊎ (S c → ⊥)). elim inside [
  | inl s ↦
      let more = with_item-members c L in
      none (
        with_item c L,
        record {
          ascends = with_item-ascends c L l.ascends;
          within = λ z h. elim (more.only z h) [ inl e ↦ subst S e s | inr d ↦ l.within z d ];
          whole = λ z h t. elim (contains_cases c C z h) [ inl e ↦ subst (Contains (with_item c L)) e more.has | inr d ↦ more.kept z (l.whole z d t) ];
        },
      )
  | inr out ↦ none (
    L,
    record {
      ascends = l.ascends;
      within = l.within;
      whole = λ z h t. elim (contains_cases c C z h) [ inl e ↦ absurd (out (subst S (sym e) t)) | inr d ↦ l.whole z d t ];
    },
  )
]))

-- ---- moves

past_dot : Item → Item
past_dot item = item_at item.rule (suc item.dot)

past_first : Rule → Item
past_first r = item_at r.number 1

candidates : List Rule → List Item → List Item
candidates rules items = map past_dot items ++ map past_first rules

is_candidate : (rules : List Rule) (items : List Item) (x : SymbolId) (item : Item) → InMove rules (Contains items) x item
    → Contains (candidates rules items) item
unfolding candidates past_dot past_first
is_candidate rules items x item (past (own {item = before} c) n) =
    Contains-append_left (map past_dot items) (map past_first rules) _ (contains_map past_dot items before c)
is_candidate rules items x item (past (added {r = r} c m there) n) =
    Contains-append_right (map past_dot items) (map past_first rules) _ (contains_map past_first rules r there)

pub has_upper : (rules : List Rule) (items : List Item) (x : SymbolId) → HasMove rules (Contains items) x
    → ((upper : List Item) → IsMoveOf rules items x upper → ⊥) → ⊥
has_upper rules items x move none = listed (InMove rules (Contains items) x) (candidates rules items) (λ (L, l). none L (record {
  some = move;
  list = record { ascends = l.ascends; within = l.within; whole = λ item m. l.whole item (is_candidate rules items x item m) m };
}))
