-- Lists in which no element comes twice: joined, mapped in part, and sorted.
use Rattle.std.proofs.Common.{◌≡◌, suc, ◌≤◌, inl, inr, Bool, true, false, cond, List, [], ◌∷◌, ◌++◌, length, refl, sym, ◌∙◌, ap, subst, arith, Contains, Option}
use Rattle.std.proofs.Common.{Some, None, filter}
use Rattle.std.specs.List.{filter_map, cons_option, dedup, dedup_from}
use Rattle.std.specs.List.Sorted.{IsSorted, IsStrictlySortedBy, IsPermutation}
use Rattle.std.specs.Ordering.{eq_by_cmp}
use Rattle.std.specs.declared.cmp.Ordering.{Ordering}
use Rattle.std.specs.Cmp.{IsTotalOrder, IsEquivalence}
use Rattle.std.proofs.lemmas.List.Elements.{Contains-append_cases}
use Rattle.std.proofs.lemmas.List.Kept.{Contains-dedup, IsStrictlySortedBy-dedup}
use Rattle.std.proofs.lemmas.List.Sorted.{Contains-permutation, length_permutation}
use Rattle.forest.specs.Distinct.{IsDistinct}
use Rattle.forest.proofs.Ascending.{contains_here, contains_there, contains_cases}
use Rattle.forest.proofs.Counting.{at_most}

pub distinct_append : {X : Type 0} (xs ys : List X) → IsDistinct xs → IsDistinct ys → ((x : X) → Contains xs x → Contains ys x → ⊥) → IsDistinct (xs ++ ys)
distinct_append [] ys a b apart = b
distinct_append (x ∷ xs) ys a b apart = (
  λ c. elim (Contains-append_cases xs ys x c) [ inl d ↦ a.0 d | inr d ↦ apart x (contains_here x xs) d ],
  distinct_append xs ys a.1 b (λ z c d. apart z (contains_there x xs z c) d),
)

-- ---- mapped in part

-- an element of which y is made
pub record Makes {X Y : Type 0} (f : X → Option Y) (xs : List X) (y : Y) : Type 0 where
  pub from : X
  pub there : Contains xs from
  pub is : f from ≡ Some y

pub makes : {X Y : Type 0} (f : X → Option Y) (xs : List X) (y : Y) → Contains (filter_map f xs) y → Makes f xs y
makes f [] y (k, l, e) = absurd (omega arith)
makes {X} {Y} f (x ∷ xs) y c = by (f x) refl (makes f xs y) c
  where
    later : Makes f xs y → Makes f (x ∷ xs) y
    later m = record { from = m.from; there = contains_there x xs m.from m.there; is = m.is }

    by : (o : Option Y) → f x ≡ o → (Contains (filter_map f xs) y → Makes f xs y) → Contains (cons_option o (filter_map f xs)) y → Makes f (x ∷ xs) y
    by None e rec d = later (rec d)
    by (Some z) e rec d = elim (contains_cases z (filter_map f xs) y d) [
      | inl same ↦ record { from = x; there = contains_here x xs; is = e ∙ ap Some same }
      | inr rest ↦ later (rec rest)
    ]

pub made : {X Y : Type 0} (f : X → Option Y) (xs : List X) (x : X) (y : Y) → Contains xs x → f x ≡ Some y → Contains (filter_map f xs) y
made f [] x y (k, l, e) is = absurd (omega arith)
made {X} {Y} f (z ∷ xs) x y c is = by (f z) refl (λ d. made f xs x y d is)
  where
    by : (o : Option Y) → f z ≡ o → (Contains xs x → Contains (filter_map f xs) y) → Contains (cons_option o (filter_map f xs)) y
    by None e rec = elim (contains_cases z xs x c) [
      | inl same ↦ let no : None ≡ Some y = sym e ∙ ap f same ∙ is in absurd cc
      | inr rest ↦ rec rest
    ]
    by (Some w) e rec = elim (contains_cases z xs x c) [
      | inl same ↦
          let both : Some w ≡ Some y = sym e ∙ ap f same ∙ is in
          let w_is : w ≡ y = cc in
          subst (λ v. Contains (w ∷ filter_map f xs) v) w_is (contains_here w (filter_map f xs))
      | inr rest ↦ contains_there w (filter_map f xs) y (rec rest)
    ]

-- where different elements make different things
pub distinct_made : {X Y : Type 0} (f : X → Option Y) (xs : List X) → ((a b : X) (y : Y) → Contains xs a → Contains xs b → f a ≡ Some y → f b ≡ Some y → a ≡ b)
    → IsDistinct xs → IsDistinct (filter_map f xs)
distinct_made f [] apart d = tt
distinct_made {X} {Y} f (x ∷ xs) apart d = by (f x) refl (distinct_made f xs (λ a b y c e. apart a b y (contains_there x xs a c) (contains_there x xs b e)) d.1)
  where
    by : (o : Option Y) → f x ≡ o → IsDistinct (filter_map f xs) → IsDistinct (cons_option o (filter_map f xs))
    by None e rest = rest
    by (Some y) e rest = (
      λ c. let m = makes f xs y c in
          let same : m.from ≡ x = apart m.from x y (contains_there x xs m.from m.there) (contains_here x xs) m.is e in
          d.0 (subst (Contains xs) same m.there),
      rest,
    )

-- ---- filtered

pub kept : {X : Type 0} (test : X → Bool) (xs : List X) (x : X) → Contains xs x → test x ≡ true → Contains (filter test xs) x
kept test [] x (k, l, e) is = absurd (omega arith)
kept {X} test (y ∷ ys) x c is = by (test y) refl (λ d. kept test ys x d is)
  where
    by : (passes : Bool) → test y ≡ passes → (Contains ys x → Contains (filter test ys) x) → Contains (cond passes (y ∷ filter test ys) (filter test ys)) x
    by true e rec = elim (contains_cases y ys x c) [
      | inl same ↦ subst (λ v. Contains (y ∷ filter test ys) v) same (contains_here y (filter test ys))
      | inr rest ↦ contains_there y (filter test ys) x (rec rest)
    ]
    by false e rec = elim (contains_cases y ys x c) [
      | inl same ↦ let no : false ≡ true = sym e ∙ ap test same ∙ is in absurd cc
      | inr rest ↦ rec rest
    ]

-- ---- sorted

module _ {X : Type 0} (E : X → X → Bool) where
  shorter : (k : X) (xs : List X) → length (dedup_from E k xs) ≤ suc (length xs)
  shorter k [] = omega arith
  shorter k (x ∷ xs) = by (E x k) (shorter k xs) (shorter x xs)
    where
      by : (same : Bool) → length (dedup_from E k xs) ≤ suc (length xs) → length (dedup_from E x xs) ≤ suc (length xs)
          → length (cond same (dedup_from E k xs) (k ∷ dedup_from E x xs)) ≤ suc (suc (length xs))
      by true one two = omega arith
      by false one two = omega arith

  all_left_from : (k : X) (xs : List X) → length (dedup_from E k xs) ≡ suc (length xs) → dedup_from E k xs ≡ k ∷ xs
  all_left_from k [] e = refl
  all_left_from k (x ∷ xs) e = by (E x k) e (all_left_from x xs)
    where
      by : (same : Bool) → length (cond same (dedup_from E k xs) (k ∷ dedup_from E x xs)) ≡ suc (suc (length xs))
          → (length (dedup_from E x xs) ≡ suc (length xs) → dedup_from E x xs ≡ x ∷ xs) → cond same (dedup_from E k xs) (k ∷ dedup_from E x xs) ≡ k ∷ x ∷ xs
      by true f rec = absurd (omega (arith, shorter k xs))
      by false f rec = ap (λ zs. k ∷ zs) (rec (omega arith))

  -- where none is left out, all are there as they were
  all_left : (xs : List X) → length xs ≤ length (dedup E xs) → dedup E xs ≡ xs
  all_left [] l = refl
  all_left (x ∷ xs) l = all_left_from x xs (omega (arith, shorter x xs))

-- different elements in order are in strict order
pub strictly : {X : Type 0} {R : X → X → Ordering} (total : IsTotalOrder R) {E : X → X → Bool} (same : IsEquivalence E)
    (ties : (x y : X) → E x y ≡ eq_by_cmp R x y) (exact : (x y : X) → E x y ≡ true → x ≡ y) (xs ys : List X) → IsDistinct xs → IsPermutation xs ys
    → IsSorted R ys → IsStrictlySortedBy R ys
strictly {X} {R} total {E} same ties exact xs ys apart moved sorted =
    let fewer : length xs ≤ length (dedup E ys) =
    at_most xs (dedup E ys) apart (λ x c. Contains-dedup same exact ys x (Contains-permutation xs ys x moved c)) in
    let all : length ys ≤ length (dedup E ys) = omega (arith, length_permutation xs ys moved) in
    subst (IsStrictlySortedBy R) (all_left E ys all) (IsStrictlySortedBy-dedup total ties ys sorted)
