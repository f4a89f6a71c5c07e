-- Lists of marks in the order of their numbers, as one goes in.
use Rattle.std.proofs.Common.{◌≡◌, ℕ, zero, suc, ◌+◌, ◌*◌, ◌<◌, ◌≤◌, ◌⊎◌, inl, inr, ◌↔◌, List, [], ◌∷◌, ◌++◌, length, get_or, take, drop, refl, sym, ◌∙◌, ap}
use Rattle.std.proofs.Common.{subst, arith, Contains, Err, ◌-◌, append-nil, slice_get, Some}
use Rattle.std.proofs.lemmas.Bool.{cases_lt}
use Rattle.std.proofs.lemmas.List.{take-append-drop, get_or-take, get_or-drop, length-take, length-drop}
use Rattle.std.proofs.lemmas.List.Elements.{Contains-append_left, Contains-append_right, Contains-append_cases}
use Rattle.std.proofs.lemmas.List.Sorted.{IsNonDecreasingBy-from_default}
use Rattle.std.proofs.lemmas.Map.Keys.{Less-from_sorted}
use Rattle.std.proofs.lemmas.Map.Lookups.{exact_unsigned}
use Rattle.std.specs.Ordering.{nat_cmp, ordering_reverse, ordering_index}
use Rattle.std.specs.Cmp.{nat_cmp_total, nat_cmp_is}
use Rattle.std.proofs.lemmas.Option.{slice_get-get_or}
use Rattle.std.specs.declared.cmp.Ordering.{Ordering}
use Rattle.std.specs.declared.cmp.Ordering.TheVariants.{Less, Equal, Greater}
use Rattle.std.specs.List.{AllByRecursion, HoldsAt, insert}
use Rattle.std.specs.List.Sorted.{IsStrictlySortedBy, IsBinarySearchResult, IsNonDecreasingBy}
use Rattle.forest.specs.declared.symbols.SymbolId.{SymbolId}
use Rattle.forest.specs.declared.rules.RuleId.{RuleId}
use Rattle.forest.proofs.Ascending.{contains_here, contains_there, contains_cases}
use Rattle.edit_log.proofs.PlainLists.{nat_cmp_less}
use Rattle.edit_log.specs.declared.definitions.DefId.{DefId}
use Rattle.edit_log.specs.declared.definitions.DefId.TheVariants.{Literal as literal, Named as named}
use Rattle.isg_states.specs.declared.mark.Mark.{Mark}
use Rattle.isg_states.specs.Marks.{definition_number, mark_number, mark_cmp, ListsMarks}
use Rattle.isg_states.specs.Candidates.{AreSmall}

-- ---- elements

pub each_of : {X : Type 0} (P : X → Type 0) (xs : List X) → AllByRecursion P xs → (x : X) → Contains xs x → P x
each_of P [] all x c = absurd (omega (arith, c.1))
each_of P (y ∷ ys) all x c = elim (contains_cases y ys x c) [ inl e ↦ subst P e all.0 | inr d ↦ each_of P ys all.1 x d ]

pub all_of : {X : Type 0} (P : X → Type 0) (xs : List X) → ((x : X) → Contains xs x → P x) → AllByRecursion P xs
all_of P [] each = tt
all_of P (x ∷ xs) each = (each x (contains_here x xs), all_of P xs (λ y c. each y (contains_there x xs y c)))

pub contains_none : {X : Type 0} (x : X) → Contains [] x → ⊥
contains_none x c = absurd (omega (arith, c.1))

-- ---- numbers of marks

same_definition : (a b : DefId) → definition_number a ≡ definition_number b → a ≡ b
same_definition (literal a) (literal b) e = let k : a.0 ≡ b.0 = omega arith in ap (λ n. literal (let s : SymbolId = record { 0 = n } in s)) k
same_definition (literal a) (named b) e = absurd (omega arith)
same_definition (named a) (literal b) e = absurd (omega arith)
same_definition (named a) (named b) e = let k : a.0 ≡ b.0 = omega arith in ap (λ n. named (let r : RuleId = record { 0 = n } in r)) k

split_number : (d e i j : ℕ) → i < 256 → j < 256 → d * 256 + i ≡ e * 256 + j → (d ≡ e) × (i ≡ j)
split_number d e i j k l h = (omega arith, omega arith)

same_mark : (a b : Mark) → a.index < 256 → b.index < 256 → mark_number a ≡ mark_number b → a ≡ b
same_mark a b i j e =
    let parts = split_number (definition_number a.def) (definition_number b.def) a.index b.index i j e in
    let mark : DefId → ℕ → Mark = λ d n. record { def = d; index = n } in
    ap (λ d. mark d a.index) (same_definition a.def b.def parts.0) ∙ ap (λ n. mark b.def n) parts.1

-- ---- other words for the members

pub relist : {P Q : Mark → Type 0} {xs : List Mark} → ListsMarks P xs → ((m : Mark) → P m → Q m) → ((m : Mark) → Q m → P m) → ListsMarks Q xs
relist lists f g = record { order = lists.order; members = λ m. (λ c. f m ((lists.members m).0 c), λ q. (lists.members m).1 (g m q)) }

pub list_none : {P : Mark → Type 0} → ((m : Mark) → P m → ⊥) → ListsMarks P []
unfolding IsStrictlySortedBy
list_none none = record { order = tt; members = λ m. (λ c. absurd (contains_none m c), λ p. absurd (none m p)) }

-- ---- a mark between two parts of a list

sorted_with : (before after : List Mark) (x : Mark) → IsStrictlySortedBy mark_cmp (before ++ after) → ((y : Mark) → Contains before y → mark_cmp y x ≡ Less)
    → ((y : Mark) → Contains after y → mark_cmp x y ≡ Less) → IsStrictlySortedBy mark_cmp (before ++ x ∷ after)
unfolding IsStrictlySortedBy
sorted_with [] after x sorted below above = (all_of _ after above, sorted)
sorted_with (first ∷ before) after x sorted below above = (
  all_of _ (before ++ x ∷ after) (λ y c. elim (Contains-append_cases before (x ∷ after) y c) [
    | inl d ↦ each_of _ _ sorted.0 y (Contains-append_left before after y d)
    | inr d ↦ elim (contains_cases x after y d) [
      | inl e ↦ subst (λ w. mark_cmp first w ≡ Less) e (below first (contains_here first before))
      | inr there ↦ each_of _ _ sorted.0 y (Contains-append_right before after y there)
    ]
  ]),
  sorted_with before after x sorted.1 (λ y c. below y (contains_there first before y c)) above,
)

members_with : (before after : List Mark) (x y : Mark) → Contains (before ++ x ∷ after) y ↔ (Contains (before ++ after) y ⊎ (y ≡ x))
members_with before after x y = (
  λ c. elim (Contains-append_cases before (x ∷ after) y c) [
    | inl d ↦ inl (Contains-append_left before after y d)
    | inr d ↦ elim (contains_cases x after y d) [ inl e ↦ inr (sym e) | inr there ↦ inl (Contains-append_right before after y there) ]
  ],
  λ w. elim w [
    | inl c ↦ elim (Contains-append_cases before after y c) [
      | inl d ↦ Contains-append_left before (x ∷ after) y d
      | inr d ↦ Contains-append_right before (x ∷ after) y (contains_there x after y d)
    ]
    | inr e ↦ subst (Contains (before ++ x ∷ after)) (sym e) (Contains-append_right before (x ∷ after) x (contains_here x after))
  ],
)

-- ---- what a binary search finds

turned : (a b : Mark) → mark_cmp a b ≡ Greater → mark_cmp b a ≡ Less
turned a b e = nat_cmp_total.antisymm (mark_number b) (mark_number a) ∙ ap ordering_reverse e

rises : (a b n : ℕ) → nat_cmp a b ≡ Less → ordering_index (nat_cmp a n) ≤ ordering_index (nat_cmp b n)
rises a b n less = by (nat_cmp b n) refl where
  most : (o : Ordering) → ordering_index o ≤ ordering_index Greater
  most Less = omega arith
  most Equal = omega arith
  most Greater = omega arith

  by : (o : Ordering) → nat_cmp b n ≡ o → ordering_index (nat_cmp a n) ≤ ordering_index (nat_cmp b n)
  by Less e = let same : nat_cmp a n ≡ Less = nat_cmp_total.trans a b n less e in rw (same, e) (omega arith)
  by Equal e = let same : nat_cmp a n ≡ Less = subst (λ w. nat_cmp a w ≡ Less) (exact_unsigned b n e) less in rw (same, e) (omega arith)
  by Greater e = rw e (most (nat_cmp a n))

module _ (xs : List Mark) (x : Mark) (sorted : IsStrictlySortedBy mark_cmp xs) where
  along : IsNonDecreasingBy (λ y. ordering_index (mark_cmp y x)) xs
  along = IsNonDecreasingBy-from_default (λ y. ordering_index (mark_cmp y x)) xs x (λ a b l within. elim (cases_lt a b) [
    | inl below ↦ rises (mark_number (get_or xs a x)) (mark_number (get_or xs b x)) (mark_number x) (Less-from_sorted mark_cmp xs a b x sorted below within)
    | inr above ↦ let same : a ≡ b = omega arith in rw same (omega arith)
  ])

  -- it is there
  pub put_there : AreSmall xs → x.index < 256 → (at : ℕ) → at < length xs → HoldsAt (λ y. mark_cmp y x ≡ Equal) xs at
      → ListsMarks (λ y. Contains xs y ⊎ (y ≡ x)) xs
  put_there small index at within found =
      let y : Mark = get_or xs at x in
      let there : Contains xs y = (at, within, get_same xs at x y within refl) in
      let same : y ≡ x = same_mark y x (small y there) index (exact_unsigned (mark_number y) (mark_number x) (found x)) in
      record {
        order = sorted;
        members = λ z. (λ c. inl c, λ w. elim w [ inl c ↦ c | inr e ↦ subst (Contains xs) (same ∙ sym e) there ]);
      } where
        get_same : (ys : List Mark) (k : ℕ) (d y : Mark) → k < length ys → get_or ys k d ≡ y → get_or ys k y ≡ y
        get_same [] k d y l e = absurd (omega arith)
        get_same (z ∷ ys) zero d y l e = e
        get_same (z ∷ ys) (suc k) d y l e = get_same ys k d y (omega arith) e

  module _ (at : ℕ) (within : at ≤ length xs) (result : IsBinarySearchResult (λ y. mark_cmp y x) xs (Err at)) where
    below_at : (y : Mark) → Contains (take at xs) y → mark_cmp y x ≡ Less
    below_at y (k, less, is) =
        let near : k < at = omega (arith, length-take at xs) in
        let same : get_or xs k y ≡ y = sym (get_or-take at xs k y near) ∙ is in
        subst (λ w. mark_cmp w x ≡ Less) same ((result along).0 k y (omega arith) near)

    above_at : (y : Mark) → Contains (drop at xs) y → mark_cmp x y ≡ Less
    above_at y (k, less, is) =
        let near : at + k < length xs = omega (arith, length-drop at xs) in
        let same : get_or xs (at + k) y ≡ y = sym (get_or-drop at xs k y) ∙ is in
        turned y x (subst (λ w. mark_cmp w x ≡ Greater) same ((result along).1 (at + k) y (omega arith) near))

    -- it is not there, and goes in
    pub put_new : ListsMarks (λ y. Contains xs y ⊎ (y ≡ x)) (insert xs at x)
    put_new =
        let whole : take at xs ++ drop at xs ≡ xs = take-append-drop at xs in
        record {
          order = sorted_with (take at xs) (drop at xs) x (subst (IsStrictlySortedBy mark_cmp) (sym whole) sorted) below_at above_at;
          members = λ y. subst (λ ys. Contains (insert xs at x) y ↔ (Contains ys y ⊎ (y ≡ x))) whole (members_with (take at xs) (drop at xs) x y);
        }

-- ---- a mark behind a list

less_of : (a b : Mark) → mark_number a < mark_number b → mark_cmp a b ≡ Less
less_of a b below = sym (nat_cmp_is (mark_number a) (mark_number b) Less below)

below_of : (a b : Mark) → mark_cmp a b ≡ Less → mark_number a < mark_number b
below_of a b less = nat_cmp_less (mark_number a) (mark_number b) less

get_last : (xs : List Mark) (last d : Mark) → 0 < length xs → slice_get xs (length xs - 1) ≡ Some last → get_or xs (length xs - 1) d ≡ last
get_last xs last d some there = same_some (get_or xs (length xs - 1) d) last (sym (slice_get-get_or xs (length xs - 1) d (omega arith)) ∙ there) where
  same_some : (a b : Mark) → Some a ≡ Some b → a ≡ b
  same_some a b e = cc

-- the last one is below the mark: so each is
pub below_all : (xs : List Mark) (last x : Mark) → IsStrictlySortedBy mark_cmp xs → slice_get xs (length xs - 1) ≡ Some last
    → mark_number last < mark_number x → (y : Mark) → Contains xs y → mark_cmp y x ≡ Less
below_all xs last x sorted there below y (k, within, is) =
    let at : get_or xs (length xs - 1) y ≡ last = get_last xs last y (omega arith) there in
    elim (cases_lt k (length xs - 1)) [
      | inl before ↦ (
          let upto : mark_cmp (get_or xs k y) (get_or xs (length xs - 1) y) ≡ Less =
          Less-from_sorted mark_cmp xs k (length xs - 1) y sorted before (omega arith) in
          let from_y : mark_cmp y last ≡ Less = subst (λ z. mark_cmp y z ≡ Less) at (subst (λ z. mark_cmp z (get_or xs (length xs - 1) y) ≡ Less) is upto) in
          nat_cmp_total.trans (mark_number y) (mark_number last) (mark_number x) from_y (less_of last x below))
      | inr behind ↦ (
          let here : length xs - 1 ≡ k = omega arith in
          let same : last ≡ y = sym at ∙ ap (λ i. get_or xs i y) here ∙ is in
          subst (λ z. mark_cmp z x ≡ Less) same (less_of last x below))
    ]

-- each is below the mark: so the last one is
pub last_below : (xs : List Mark) (last x : Mark) → slice_get xs (length xs - 1) ≡ Some last → ((y : Mark) → Contains xs y → mark_cmp y x ≡ Less)
    → mark_number last < mark_number x
last_below [] last x there all = absurd cc
last_below (y ∷ ys) last x there all = below_of last x (all last (length (y ∷ ys) - 1, omega arith, get_last (y ∷ ys) last last (omega arith) there))

pub put_last : (xs : List Mark) (x : Mark) → IsStrictlySortedBy mark_cmp xs → ((y : Mark) → Contains xs y → mark_cmp y x ≡ Less)
    → ListsMarks (λ y. Contains xs y ⊎ (y ≡ x)) (xs ++ x ∷ [])
put_last xs x sorted below = record {
  order = sorted_with xs [] x (subst (IsStrictlySortedBy mark_cmp) (sym (append-nil xs)) sorted) below (λ y c. absurd (contains_none y c));
  members = λ y. subst (λ ys. Contains (xs ++ x ∷ []) y ↔ (Contains ys y ⊎ (y ≡ x))) (append-nil xs) (members_with xs [] x y);
}
