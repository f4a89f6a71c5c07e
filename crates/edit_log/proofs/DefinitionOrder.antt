-- Lists of definitions in their order, as one goes in or out.
use Rattle.std.proofs.Common.{◌≡◌, ℕ, zero, suc, ◌+◌, ◌<◌, ◌≤◌, ◌⊎◌, inl, inr, ◌↔◌, List, [], ◌∷◌, ◌++◌, length, get_or, take, drop, refl, sym, ◌∙◌, ap, subst}
use Rattle.std.proofs.Common.{arith, Contains, Err}
use Rattle.std.proofs.lemmas.Bool.{cases_lt}
use Rattle.std.proofs.lemmas.List.{take-append-drop, get_or-take, get_or-drop, length-take, length-drop}
use Rattle.std.proofs.Math.Seq.{drop-cons}
use Rattle.std.proofs.lemmas.List.Elements.{Contains-append_left, Contains-append_right, Contains-append_cases, All-from_recursion, All-contains}
use Rattle.std.proofs.lemmas.List.Sorted.{IsNonDecreasingBy-from_default}
use Rattle.std.proofs.lemmas.Map.Keys.{Less-from_sorted}
use Rattle.std.proofs.lemmas.Map.Lookups.{exact_unsigned}
use Rattle.std.specs.Ordering.{nat_cmp, ordering_reverse, ordering_index}
use Rattle.std.specs.Cmp.{nat_cmp_total, nat_cmp_is}
use Rattle.std.specs.declared.cmp.Ordering.{Ordering}
use Rattle.std.specs.declared.cmp.Ordering.TheVariants.{Less, Equal, Greater}
use Rattle.std.specs.List.{AllByRecursion, HoldsAt, insert, remove}
use Rattle.std.specs.List.Sorted.{IsStrictlySortedBy, IsBinarySearchResult, IsNonDecreasingBy}
use Rattle.forest.specs.declared.symbols.SymbolId.{SymbolId}
use Rattle.forest.specs.declared.rules.RuleId.{RuleId}
use Rattle.edit_log.specs.declared.definitions.DefId.{DefId}
use Rattle.edit_log.specs.declared.definitions.DefId.TheVariants.{Literal as literal, Named as named}
use Rattle.edit_log.specs.Live.{definition_cmp}
use Rattle.edit_log.specs.Lookups.{ListsDefinitions}

-- ---- elements

pub contains_first : {X : Type 0} (x : X) (xs : List X) → Contains (x ∷ xs) x
contains_first x xs = (0, omega arith, refl)

pub contains_later : {X : Type 0} (y : X) (xs : List X) (x : X) → Contains xs x → Contains (y ∷ xs) x
contains_later y xs x (k, l, e) = (suc k, omega arith, e)

pub contains_cases : {X : Type 0} (y : X) (xs : List X) (x : X) → Contains (y ∷ xs) x → (y ≡ x) ⊎ Contains xs x
contains_cases y xs x (zero, l, e) = inl e
contains_cases y xs x (suc k, l, e) = inr (k, omega arith, e)

pub contains_none : {X : Type 0} (x : X) → Contains [] x → ⊥
contains_none x (k, l, e) = absurd (omega arith)

-- what holds of each element, and of each by the list
pub each_of : {X : Type 0} (P : X → Type 0) (xs : List X) → AllByRecursion P xs → (x : X) → Contains xs x → P x
each_of P xs all x c = All-contains P xs x (All-from_recursion P xs all) c

pub all_of : {X : Type 0} (P : X → Type 0) (xs : List X) → ((x : X) → Contains xs x → P x) → AllByRecursion P xs
all_of P [] each = tt
all_of P (x ∷ xs) each = (each x (contains_first x xs), all_of P xs (λ y c. each y (contains_later x xs y c)))

-- ---- the order

flips : (a b : DefId) → definition_cmp a b ≡ ordering_reverse (definition_cmp b a)
flips (literal a) (literal b) = nat_cmp_total.antisymm a.0 b.0
flips (literal a) (named b) = refl
flips (named a) (literal b) = refl
flips (named a) (named b) = nat_cmp_total.antisymm a.0 b.0

joins : (a b c : DefId) → definition_cmp a b ≡ Less → definition_cmp b c ≡ Less → definition_cmp a c ≡ Less
joins (literal a) (literal b) (literal c) p q = nat_cmp_total.trans a.0 b.0 c.0 p q
joins (literal a) b (named c) p q = refl
joins (literal a) (named b) (literal c) p q = absurd cc
joins (named a) (literal b) (literal c) p q = absurd cc
joins (named a) (literal b) (named c) p q = absurd cc
joins (named a) (named b) (literal c) p q = absurd cc
joins (named a) (named b) (named c) p q = nat_cmp_total.trans a.0 b.0 c.0 p q

pub same_definition : (a b : DefId) → definition_cmp a b ≡ Equal → a ≡ b
same_definition (literal a) (literal b) e = ap (λ n. literal (let s : SymbolId = record { 0 = n } in s)) (exact_unsigned _ _ e)
same_definition (literal a) (named b) e = absurd cc
same_definition (named a) (literal b) e = absurd cc
same_definition (named a) (named b) e = ap (λ n. named (let r : RuleId = record { 0 = n } in r)) (exact_unsigned _ _ e)

equal : (n : ℕ) → nat_cmp n n ≡ Equal
equal n = sym (nat_cmp_is n n Equal refl)

itself : (a : DefId) → definition_cmp a a ≡ Equal
itself (literal a) = equal a.0
itself (named a) = equal a.0

-- an element is not below itself
below_itself : (a b : DefId) → a ≡ b → definition_cmp a b ≡ Less → ⊥
below_itself a b e less = let same : definition_cmp a b ≡ Equal = subst (λ w. definition_cmp a w ≡ Equal) e (itself a) in absurd cc

turned : (a b : DefId) → definition_cmp a b ≡ Greater → definition_cmp b a ≡ Less
turned a b e = flips b a ∙ ap ordering_reverse e

-- ---- an element between two parts of a list

sorted_with : (before after : List DefId) (x : DefId) → IsStrictlySortedBy definition_cmp (before ++ after)
    → ((y : DefId) → Contains before y → definition_cmp y x ≡ Less)
    → ((y : DefId) → Contains after y → definition_cmp x y ≡ Less) → IsStrictlySortedBy definition_cmp (before ++ x ∷ after)
unfolding IsStrictlySortedBy
sorted_with [] after x sorted below above = (all_of _ after above, sorted)
sorted_with (first ∷ before) after x sorted below above = (
  all_of _ (before ++ x ∷ after) (λ y c. elim (Contains-append_cases before (x ∷ after) y c) [
    | inl d ↦ each_of _ _ sorted.0 y (Contains-append_left before after y d)
    | inr d ↦ elim (contains_cases x after y d) [
      | inl e ↦ subst (λ w. definition_cmp first w ≡ Less) e (below first (contains_first first before))
      | inr there ↦ each_of _ _ sorted.0 y (Contains-append_right before after y there)
    ]
  ]),
  sorted_with before after x sorted.1 (λ y c. below y (contains_later first before y c)) above,
)

-- the parts around an element, and how they stand to it
record IsAround (before after : List DefId) (x : DefId) : Type 0 where
  below : (y : DefId) → Contains before y → definition_cmp y x ≡ Less
  above : (y : DefId) → Contains after y → definition_cmp x y ≡ Less
  sorted : IsStrictlySortedBy definition_cmp (before ++ after)

around : (before after : List DefId) (x : DefId) → IsStrictlySortedBy definition_cmp (before ++ x ∷ after) → IsAround before after x
unfolding IsStrictlySortedBy
around [] after x sorted = record { below = λ y c. absurd (contains_none y c); above = λ y c. each_of _ after sorted.0 y c; sorted = sorted.1 }
around (first ∷ before) after x sorted =
    let rest = around before after x sorted.1 in
    record {
      below = λ y c. elim (contains_cases first before y c) [
        | inl e ↦ subst (λ w. definition_cmp w x ≡ Less) e (each_of _ _ sorted.0 x (Contains-append_right before (x ∷ after) x (contains_first x after)))
        | inr d ↦ rest.below y d
      ];
      above = rest.above;
      sorted = (
        all_of _ (before ++ after) (λ y c. elim (Contains-append_cases before after y c) [
          | inl d ↦ each_of _ _ sorted.0 y (Contains-append_left before (x ∷ after) y d)
          | inr d ↦ each_of _ _ sorted.0 y (Contains-append_right before (x ∷ after) y (contains_later x after y d))
        ]),
        rest.sorted,
      );
    }

-- the elements of a list into which one goes
members_with : (before after : List DefId) (x y : DefId) → Contains (before ++ x ∷ after) y ↔ (Contains (before ++ after) y ⊎ (y ≡ x))
members_with before after x y = (
  λ c. elim (Contains-append_cases before (x ∷ after) y c) [
    | inl d ↦ inl (Contains-append_left before after y d)
    | inr d ↦ elim (contains_cases x after y d) [ inl e ↦ inr (sym e) | inr there ↦ inl (Contains-append_right before after y there) ]
  ],
  λ w. elim w [
    | inl c ↦ elim (Contains-append_cases before after y c) [
      | inl d ↦ Contains-append_left before (x ∷ after) y d
      | inr d ↦ Contains-append_right before (x ∷ after) y (contains_later x after y d)
    ]
    | inr e ↦ subst (Contains (before ++ x ∷ after)) (sym e) (Contains-append_right before (x ∷ after) x (contains_first x after))
  ],
)

-- and of one from which it goes
members_without : (before after : List DefId) (x : DefId) → IsAround before after x → (y : DefId)
    → Contains (before ++ after) y ↔ (Contains (before ++ x ∷ after) y × (y ≡ x → ⊥))
members_without before after x is y = (
  λ c. (
    (members_with before after x y).1 (inl c),
    λ e. elim (Contains-append_cases before after y c) [ inl d ↦ below_itself y x e (is.below y d) | inr d ↦ below_itself x y (sym e) (is.above y d) ],
  ),
  λ w. elim ((members_with before after x y).0 w.0) [ inl c ↦ c | inr e ↦ absurd (w.1 e) ],
)

-- ---- what a binary search finds

module _ (xs : List DefId) (x : DefId) (sorted : IsStrictlySortedBy definition_cmp xs) where
  rises : (a b : DefId) → definition_cmp a b ≡ Less → ordering_index (definition_cmp a x) ≤ ordering_index (definition_cmp b x)
  rises a b less = by (definition_cmp b x) refl
    where
      by : (o : Ordering) → definition_cmp b x ≡ o → ordering_index (definition_cmp a x) ≤ ordering_index (definition_cmp b x)
      by Less e = let same : definition_cmp a x ≡ Less = joins a b x less e in rw (same, e) (omega arith)
      by Equal e = let same : definition_cmp a x ≡ Less = subst (λ w. definition_cmp a w ≡ Less) (same_definition b x e) less in rw (same, e) (omega arith)
      by Greater e = rw e (most (definition_cmp a x))
        where
          most : (o : Ordering) → ordering_index o ≤ ordering_index Greater
          most Less = omega arith
          most Equal = omega arith
          most Greater = omega arith

  along : IsNonDecreasingBy (λ y. ordering_index (definition_cmp y x)) xs
  along = IsNonDecreasingBy-from_default (λ y. ordering_index (definition_cmp y x)) xs x (λ a b l within. elim (cases_lt a b) [
    | inl below ↦ rises (get_or xs a x) (get_or xs b x) (Less-from_sorted definition_cmp xs a b x sorted below within)
    | inr above ↦ let same : a ≡ b = omega arith in rw same (omega arith)
  ])

  at_found : (at : ℕ) → HoldsAt (λ y. definition_cmp y x ≡ Equal) xs at → get_or xs at x ≡ x
  at_found at found = same_definition (get_or xs at x) x (found x)

  -- it is there
  pub put_there : (at : ℕ) → at < length xs → HoldsAt (λ y. definition_cmp y x ≡ Equal) xs at → ListsDefinitions (λ y. Contains xs y ⊎ (y ≡ x)) xs
  put_there at within found = record {
    order = sorted;
    members = λ y. (λ c. inl c, λ w. elim w [ inl c ↦ c | inr e ↦ subst (Contains xs) (sym e) (let c : Contains xs x = (at, within, at_found at found) in c) ]);
  }

  module _ (at : ℕ) (within : at ≤ length xs) (result : IsBinarySearchResult (λ y. definition_cmp y x) xs (Err at)) where
    below_at : (y : DefId) → Contains (take at xs) y → definition_cmp y x ≡ Less
    below_at y (k, less, is) =
        let near : k < at = omega (arith, length-take at xs) in
        let same : get_or xs k y ≡ y = sym (get_or-take at xs k y near) ∙ is in
        subst (λ w. definition_cmp w x ≡ Less) same ((result along).0 k y (omega arith) near)

    above_at : (y : DefId) → Contains (drop at xs) y → definition_cmp x y ≡ Less
    above_at y (k, less, is) =
        let near : at + k < length xs = omega (arith, length-drop at xs) in
        let same : get_or xs (at + k) y ≡ y = sym (get_or-drop at xs k y) ∙ is in
        turned y x (subst (λ w. definition_cmp w x ≡ Greater) same ((result along).1 (at + k) y (omega arith) near))

    -- it is not there, and goes in
    pub put_new : ListsDefinitions (λ y. Contains xs y ⊎ (y ≡ x)) (insert xs at x)
    put_new =
        let whole : take at xs ++ drop at xs ≡ xs = take-append-drop at xs in
        record {
          order = sorted_with (take at xs) (drop at xs) x (subst (IsStrictlySortedBy definition_cmp) (sym whole) sorted) below_at above_at;
          members = λ y. subst (λ ys. Contains (insert xs at x) y ↔ (Contains ys y ⊎ (y ≡ x))) whole (members_with (take at xs) (drop at xs) x y);
        }

    -- it is not there, and nothing goes out
    pub take_none : ListsDefinitions (λ y. Contains xs y × (y ≡ x → ⊥)) xs
    take_none = record { order = sorted; members = λ y. (λ c. (c, λ e. not_there y c e), λ w. w.0) }
      where
        not_there : (y : DefId) → Contains xs y → y ≡ x → ⊥
        not_there y c e =
            let whole : take at xs ++ drop at xs ≡ xs = take-append-drop at xs in
            elim (Contains-append_cases (take at xs) (drop at xs) y (subst (λ ys. Contains ys y) (sym whole) c)) [
              | inl d ↦ below_itself y x e (below_at y d)
              | inr d ↦ below_itself x y (sym e) (above_at y d)
            ]

  -- it goes out
  pub take_there : (at : ℕ) → at < length xs → HoldsAt (λ y. definition_cmp y x ≡ Equal) xs at
      → ListsDefinitions (λ y. Contains xs y × (y ≡ x → ⊥)) (remove xs at)
  take_there at within found =
      let whole : take at xs ++ x ∷ drop (suc at) xs ≡ xs =
      ap (λ y. take at xs ++ y ∷ drop (suc at) xs) (sym (at_found at found)) ∙ ap (λ ys. take at xs ++ ys) (sym (drop-cons xs at x within))
      ∙ take-append-drop at xs in
      let is = around (take at xs) (drop (suc at) xs) x (subst (IsStrictlySortedBy definition_cmp) (sym whole) sorted) in
      record {
        order = is.sorted;
        members = λ y. subst (λ ys. Contains (remove xs at) y ↔ (Contains ys y × (y ≡ x → ⊥))) whole (members_without (take at xs) (drop (suc at) xs) x is y);
      }
