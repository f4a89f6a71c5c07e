-- The items that a symbol adds to a closure: its rules with the dot at 0, but for those that begin in the kernel.
use Rattle.std.proofs.Common.{◌≡◌, ℕ, ◌<◌, ◌==◌, ◌⊎◌, inl, inr, Bool, true, false, cond, not, List, [], ◌∷◌, length, map, filter, nat_eq, refl, sym, ◌∙◌, ap}
use Rattle.std.proofs.Common.{subst, arith, Contains, slice_get, Some, get_or}
use Rattle.std.specs.List.{list_any}
use Rattle.std.specs.Cmp.{IsEquivalence, nat_eq_equiv}
use Rattle.std.specs.List.Sorted.{IsStrictlySortedBy}
use Rattle.std.proofs.lemmas.Bool.{eqb-true, eq-eqb, ne_eqb, and_parts, not-true, not_from_false}
use Rattle.std.proofs.lemmas.Map.Views.{list_any-from_Contains, Contains-from_any}
use Rattle.std.proofs.lemmas.Option.{slice_get-get_or}
use Rattle.forest.specs.declared.symbols.SymbolId.{SymbolId}
use Rattle.forest.specs.declared.rules.RuleId.{RuleId}
use Rattle.forest.specs.declared.rules.Rule.{Rule}
use Rattle.forest.specs.Distinct.{IsDistinct}
use Rattle.forest.specs.Orders.{rule_cmp}
use Rattle.edit_log.specs.Lookups.{numbers_of_left}
use Rattle.edit_log.proofs.PlainLists.{each_contained, contains_map, contains_map_from, contains_at, contains_filter, filter_passes, distinct_filter}
use Rattle.edit_log.proofs.PlainLists.{sorted_keys}
use Rattle.item_sets.specs.declared.item.Item.{Item}
use Rattle.item_sets.specs.Orders.{number_eq}
use Rattle.item_sets.specs.Prefixes.{rule_zero, item_at, live, IsItem}
use Rattle.item_sets.specs.Walks.{is_early, early_rules, added_items}
use Rattle.item_sets.proofs.DistinctLists.{kept}
use Rattle.item_sets.proofs.Numbering.{IsNumbered}
use Rattle.item_sets.proofs.Positions.{number_same}

-- ---- lists

distinct_filtered : {X : Type 0} (test : X → Bool) (xs : List X) → IsDistinct xs → IsDistinct (filter test xs)
distinct_filtered test [] d = tt
distinct_filtered {X} test (x ∷ xs) d = by (test x) (distinct_filtered test xs d.1)
  where
    by : (passes : Bool) → IsDistinct (filter test xs) → IsDistinct (cond passes (x ∷ filter test xs) (filter test xs))
    by true rest = (λ c. d.0 (contains_filter test xs x c), rest)
    by false rest = rest

distinct_mapped : {X Y : Type 0} (f : X → Y) (same : (a b : X) → f a ≡ f b → a ≡ b) (xs : List X) → IsDistinct xs → IsDistinct (map f xs)
distinct_mapped f same [] d = tt
distinct_mapped f same (x ∷ xs) d = (
  λ c. let from = contains_map_from f xs (f x) c in d.0 (subst (Contains xs) (same from.from x from.is) from.there),
  distinct_mapped f same xs d.1,
)

distinct_numbers : (rules : List Rule) → IsDistinct (map (λ r. r.number.0) rules) → IsDistinct (map (λ r. r.number) rules)
distinct_numbers [] d = tt
distinct_numbers (r ∷ rules) d = (
  λ c. let from = contains_map_from (λ (q : Rule). q.number) rules r.number c in
      d.0 (subst (Contains (map (λ q. q.number.0) rules)) (ap (λ (k : RuleId). k.0) from.is)
      (contains_map (λ (q : Rule). q.number.0) rules from.from from.there)),
  distinct_numbers rules d.1,
)

-- ---- the rules of a left side

-- the rule of a number
pub record IsRuleOf (rules : List Rule) (x : SymbolId) (k : RuleId) : Type 0 where
  pub rule : Rule
  pub live : Contains rules rule
  pub left : rule.left ≡ x
  pub is : rule.number ≡ k

symbol_same : (a b : SymbolId) → a.0 ≡ b.0 → a ≡ b
symbol_same a b e = let f : ℕ → SymbolId = λ n. record { 0 = n } in ap f e

number_from : (rules : List Rule) (x : SymbolId) (k : RuleId) → Contains (numbers_of_left rules x) k → IsRuleOf rules x k
number_from rules x k c =
    let test : Rule → Bool = λ r. r.left.0 == x.0 in
    let from = contains_map_from (λ (r : Rule). r.number) (filter (λ r. r.left.0 == x.0) rules) k c in
    record {
      rule = from.from;
      live = contains_filter (λ (r : Rule). r.left.0 == x.0) rules from.from from.there;
      left = symbol_same from.from.left x
          (eqb-true from.from.left.0 x.0
          (each_contained _ (filter (λ r. r.left.0 == x.0) rules) from.from (filter_passes (λ (r : Rule). r.left.0 == x.0) rules) from.there));
      is = from.is;
    }

number_to : (rules : List Rule) (r : Rule) → Contains rules r → Contains (numbers_of_left rules r.left) r.number
number_to rules r c = contains_map (λ (q : Rule). q.number) (filter (λ q. q.left.0 == r.left.0) rules) r
    (kept (λ (q : Rule). q.left.0 == r.left.0) rules r c (eq-eqb r.left.0 r.left.0 refl))

-- ---- rules that begin in the kernel

early_from : (kernel : List Item) (k : RuleId) → Contains (early_rules kernel) k → Contains kernel (item_at k 0)
early_from kernel k c =
    let from = contains_map_from (λ (item : Item). item.rule) (filter is_early kernel) k c in
    let it = from.from in
    let both = and_parts (it.dot == 0) (not (it.rule.0 == 0)) (each_contained _ (filter is_early kernel) it (filter_passes is_early kernel) from.there) in
    let dot : it.dot ≡ 0 = eqb-true it.dot 0 both.0 in
    let same : it ≡ item_at k 0 = ap (λ d. item_at it.rule d) dot ∙ ap (λ n. item_at n 0) from.is in
    subst (Contains kernel) same (contains_filter is_early kernel it from.there)

early_to : (kernel : List Item) (k : RuleId) → (k.0 ≡ 0 → ⊥) → Contains kernel (item_at k 0) → Contains (early_rules kernel) k
early_to kernel k some c =
    let passes : is_early (item_at k 0) ≡ true = rw (ne_eqb k.0 0 some) refl in
    contains_map (λ (item : Item). item.rule) (filter is_early kernel) (item_at k 0) (kept is_early kernel (item_at k 0) c passes)

-- ---- what a symbol adds

-- whether one number is another
abbrev is_number : RuleId → RuleId → Bool
is_number number other = number_eq other number

is_equiv : IsEquivalence is_number
is_equiv = record {
  refl = λ a. eq-eqb a.0 a.0 refl;
  symm = λ a b. nat_eq_equiv.symm b.0 a.0;
  congr = λ a b c e. let same : a.0 ≡ b.0 = sym (eqb-true b.0 a.0 e) in ap (λ n. nat_eq c.0 n) same;
}

is_exact : (a b : RuleId) → is_number a b ≡ true → a ≡ b
is_exact a b e = number_same a b (sym (eqb-true b.0 a.0 e))

-- where an added item is from
pub record IsAddedBy (rules : List Rule) (kernel : List Item) (x : SymbolId) (item : Item) : Type 0 where
  pub from : IsRuleOf rules x item.rule
  pub dot : item.dot ≡ 0
  pub new : Contains kernel item → ⊥

module _ (rules : List Rule) (numbers : IsNumbered rules) (kernel : List Item) (x : SymbolId) where
  abbrev is_new : RuleId → Bool
  is_new k = not (list_any (is_number k) (early_rules kernel))

  abbrev pub adds : List Item
  adds = added_items (early_rules kernel) (numbers_of_left rules x)

  pub added_from : (item : Item) → Contains adds item → IsAddedBy rules kernel x item
  added_from item c =
      let from = contains_map_from (λ (k : RuleId). item_at k 0) (filter is_new (numbers_of_left rules x)) item c in
      let k = from.from in
      let is : IsRuleOf rules x k = number_from rules x k (contains_filter is_new (numbers_of_left rules x) k from.there) in
      let other : is_new k ≡ true = each_contained _ (filter is_new (numbers_of_left rules x)) k (filter_passes is_new (numbers_of_left rules x)) from.there in
      let none : list_any (is_number k) (early_rules kernel) ≡ false = not-true _ other in
      let live : k.0 ≡ 0 → ⊥ = λ z. numbers.some is.rule is.live (is.is ∙ number_same k rule_zero z) in
      subst (IsAddedBy rules kernel x) from.is (record {
        from = is;
        dot = refl;
        new = λ d. let yes : list_any (is_number k) (early_rules kernel) ≡ true =
            list_any-from_Contains is_equiv k (early_rules kernel) (early_to kernel k live d) in absurd (let no : false ≡ true = sym none ∙ yes in cc);
      })

  pub added_to : (r : Rule) → Contains rules r → r.left ≡ x → Contains kernel (item_at r.number 0) ⊎ Contains adds (item_at r.number 0)
  added_to r c e = by (list_any (is_number r.number) (early_rules kernel)) refl
    where
      there : Contains (numbers_of_left rules x) r.number
      there = subst (λ y. Contains (numbers_of_left rules y) r.number) e (number_to rules r c)

      by : (b : Bool) → list_any (is_number r.number) (early_rules kernel) ≡ b → Contains kernel (item_at r.number 0) ⊎ Contains adds (item_at r.number 0)
      by true f = inl (early_from kernel r.number (Contains-from_any is_exact r.number (early_rules kernel) f))
      by false f = inr (contains_map (λ (k : RuleId). item_at k 0) (filter is_new (numbers_of_left rules x)) r.number
          (kept is_new (numbers_of_left rules x) r.number there (not_from_false _ f)))

  pub added_distinct : IsStrictlySortedBy rule_cmp rules → IsDistinct adds
  added_distinct ascend = distinct_mapped (λ (k : RuleId). item_at k 0) (λ a b e. ap (λ (item : Item). item.rule) e) (filter is_new (numbers_of_left rules x))
      (distinct_filtered is_new (numbers_of_left rules x)
      (distinct_filter (λ (r : Rule). r.number) (λ (r : Rule). r.left.0 == x.0) rules
      (distinct_numbers rules (sorted_keys (λ (r : Rule). r.number.0) rules ascend))))

-- a rule of the symbol with the dot at 0 is an item of the rules
pub number_item : (rules : List Rule) (x : SymbolId) (some : List RuleId) (i : ℕ) (d : RuleId) → some ≡ numbers_of_left rules x → i < length some
    → IsItem rules (item_at (get_or some i d) 0)
number_item rules x some i d e l =
    let at : slice_get some i ≡ Some (get_or some i d) = slice_get-get_or some i d l in
    let by = number_from rules x (get_or some i d) (subst (λ ks. Contains ks (get_or some i d)) e (contains_at some i (get_or some i d) at)) in
    subst (λ k. IsItem rules (item_at k 0)) by.is (record { right = by.rule.right; has = live by.live; within = omega arith })
