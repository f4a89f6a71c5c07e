-- The least number that a list does not have, and how many numbers a list can have.
use Rattle.std.proofs.Common.{◌≡◌, ◌≢◌, ℕ, zero, suc, ◌+◌, ◌<◌, ◌≤◌, List, [], ◌∷◌, ◌⊎◌, inl, inr, length, eq-eqb, ne_eqb, sym, refl, ap, ◌∙◌, subst, arith}
use Rattle.std.proofs.lemmas.Bool.{cases_lt}
use mathlib.Core.Bool.{cond}
use mathlib.Core.Logic.{dite}
use native.Mathlib.Decide.{ℕ_discrete}
use Rattle.std.specs.Prelude.{true, false}
use Rattle.pin_rule.specs.declared.view.Role.{Role}
use Rattle.pin_rule.specs.Lists.{In, is_in}
use Rattle.pin_rule.specs.Views.{pages_taken}
use Rattle.pin_rule.specs.Making.{first_outside, spare_page}

pub is_in_tells : (n : ℕ) (ns : List ℕ) → ((is_in n ns ≡ true) × In n ns) ⊎ ((is_in n ns ≡ false) × (¬ (In n ns)))
is_in_tells n [] = inr (refl, λ i. i)
is_in_tells n (m ∷ ms) = dite (ℕ_discrete n m)
    (λ e. inl (ap (λ b. cond b true (is_in n ms)) (eq-eqb n m e), inl e))
    (λ ne. let here = ap (λ b. cond b true (is_in n ms)) (ne_eqb n m ne) in elim (is_in_tells n ms) [
      | inl t ↦ inl (here ∙ t.0, inr t.1)
      | inr t ↦ inr (here ∙ t.0, λ i. elim i [ inl e ↦ ne e | inr k ↦ t.1 k ])
    ])

-- the list without one that it has
without_one : (n : ℕ) (ns : List ℕ) → In n ns → (ms : List ℕ) × (length ns ≡ suc (length ms)) × ((m : ℕ) → m ≢ n → In m ns → In m ms)
without_one n [] i = absurd i
without_one n (m ∷ ms) i = elim i [
  | inl e ↦ (ms, refl, λ k ne j. elim j [ inl e' ↦ absurd (ne (e' ∙ sym e)) | inr t ↦ t ])
  | inr t ↦ let r = without_one n ms t in (m ∷ r.0, ap suc r.1, λ k ne j. elim j [ inl e ↦ inl e | inr u ↦ inr (r.2 k ne u) ])
]

-- a list that has all numbers below n has at least n members
pub has_all_below : (n : ℕ) (ns : List ℕ) → ((i : ℕ) → i < n → In i ns) → n ≤ length ns
has_all_below zero ns h = omega arith
has_all_below (suc n) ns h = let r = without_one n ns (h n (omega arith)) in let few =
    has_all_below n r.0 (λ i lt. r.2 i (λ e. omega arith) (h i (omega arith))) in let long = r.1 in omega arith

first_at_most : (count from : ℕ) (ns : List ℕ) → first_outside count from ns ≤ from + count
first_at_most zero from ns = omega arith
first_at_most (suc count) from ns = elim (is_in_tells from ns) [
  | inl t ↦ let e = ap (λ b. cond b (first_outside count (suc from) ns) from) t.0 in let few = first_at_most count (suc from) ns in omega arith
  | inr t ↦ let e = ap (λ b. cond b (first_outside count (suc from) ns) from) t.0 in omega arith
]

-- it is none of the list, or all of that many numbers are in the list
first_or_all : (count from : ℕ) (ns : List ℕ) → (¬ (In (first_outside count from ns) ns)) ⊎
    ((first_outside count from ns ≡ from + count) × ((i : ℕ) → from ≤ i → i < from + count → In i ns))
first_or_all zero from ns = inr ((let r : from ≡ from + 0 = omega arith in r), λ i ge lt. absurd (omega arith))
first_or_all (suc count) from ns = elim (is_in_tells from ns) [
  | inl t ↦ let e = ap (λ b. cond b (first_outside count (suc from) ns) from) t.0 in elim (first_or_all count (suc from) ns) [
    | inl out ↦ inl (subst (λ (n : ℕ). ¬ (In n ns)) (sym e) out)
    | inr all ↦ inr (
      (let last = all.0 in let r : first_outside (suc count) from ns ≡ from + suc count = omega arith in r),
      λ i ge lt. dite (ℕ_discrete from i) (λ same. subst (λ (n : ℕ). In n ns) same t.1) (λ ne. all.1 i (omega arith) (omega arith)),
    )
  ]
  | inr t ↦ inl (subst (λ (n : ℕ). ¬ (In n ns)) (sym (ap (λ b. cond b (first_outside count (suc from) ns) from) t.0)) t.1)
]

pub outside : (ns : List ℕ) → ¬ (In (first_outside (length ns) 0 ns) ns)
outside ns = elim (first_or_all (length ns) 0 ns) [
  | inl out ↦ out
  | inr all ↦ λ i. let n : ℕ = length ns in let many = has_all_below (suc n) ns
      (λ k lt. dite (ℕ_discrete k n) (λ same. subst (λ (m : ℕ). In m ns) ((let last = all.0 in let r : first_outside n 0 ns ≡ k = omega arith in r)) i)
      (λ ne. all.1 k (omega arith) (omega arith))) in omega arith
]

first_is : (count from page : ℕ) (ns : List ℕ) → from ≤ page → page ≤ from + count → (¬ (In page ns)) → ((i : ℕ) → from ≤ i → i < page → In i ns)
    → first_outside count from ns ≡ page
first_is zero from page ns ge le out below = omega arith
first_is (suc count) from page ns ge le out below = elim (is_in_tells from ns) [
  | inl t ↦ let more : from ≢ page = λ e. out (subst (λ (n : ℕ). In n ns) e t.1) in ap (λ b. cond b (first_outside count (suc from) ns) from) t.0
      ∙ first_is count (suc from) page ns (omega arith) (omega arith) out (λ i gt lt. below i (omega arith) lt)
  | inr t ↦ ap (λ b. cond b (first_outside count (suc from) ns) from) t.0 ∙ elim (cases_lt from page) [
    | inl lt ↦ absurd (t.1 (below from (omega arith) lt))
    | inr done ↦ let r : from ≡ page = omega arith in r
  ]
]

module _ (r : Role) where
  pub spare_few : spare_page r ≤ length (pages_taken r)
  spare_few = let ns : List ℕ = pages_taken r in let n : ℕ = length ns in let few = first_at_most n 0 ns in let s : ℕ = first_outside n 0 ns in
      let r : s ≤ n = omega arith in r

  pub spare_outside : ¬ (In (spare_page r) (pages_taken r))
  spare_outside = outside (pages_taken r)

  -- the page that is not taken, where all below it are, is the spare page
  pub spare_is : (page : ℕ) → (¬ (In page (pages_taken r))) → ((i : ℕ) → i < page → In i (pages_taken r)) → spare_page r ≡ page
  spare_is page out below = first_is (length (pages_taken r)) 0 page (pages_taken r) (omega arith) (let few = has_all_below page (pages_taken r) below in
      let n : ℕ = length (pages_taken r) in
      let le : page ≤ n = few in let k : page ≤ 0 + n = omega arith in k) out
      (λ i _ lt. below i lt)
