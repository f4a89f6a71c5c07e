-- Writing one entry at places one after the other.
use Rattle.std.proofs.Common.{◌≡◌, inl, inr, ℕ, zero, suc, ◌+◌, ◌<◌, ◌≤◌, List, [], ◌∷◌, length, set, Some, slice_get, refl, ap, ◌∙◌, subst, arith}
use Rattle.std.proofs.lemmas.Bool.{cases_lt}
use Rattle.std.proofs.Math.ListN.{length-set}
use Rattle.isg_scan.specs.States.{IsFilled}

set_same : (xs : List ℕ) (i y : ℕ) → i < length xs → slice_get (set xs i y) i ≡ Some y
set_same [] i y within = absurd (omega (arith, within))
set_same (x ∷ xs) zero y within = refl
set_same (x ∷ xs) (suc i) y within = set_same xs i y (omega (arith, within))

set_other : (xs : List ℕ) (i j y : ℕ) → (i ≡ j → ⊥) → slice_get (set xs i y) j ≡ slice_get xs j
set_other [] i j y other = refl
set_other (x ∷ xs) zero zero y other = absurd (other refl)
set_other (x ∷ xs) zero (suc j) y other = refl
set_other (x ∷ xs) (suc i) zero y other = refl
set_other (x ∷ xs) (suc i) (suc j) y other = set_other xs i j y (λ same. other (ap suc same))

-- the entry was written at the places from one on and before another
pub record IsFilledTo (old new : List ℕ) (from place entry : ℕ) : Type 0 where
  pub size : length new ≡ length old
  pub written : (p : ℕ) → from ≤ p → p < place → slice_get new p ≡ Some entry
  pub left : (p : ℕ) → (from ≤ p → p < place → ⊥) → slice_get new p ≡ slice_get old p

pub filled_none : (list : List ℕ) (from entry : ℕ) → IsFilledTo list list from from entry
filled_none list from entry = record { size = refl; written = λ p since before. absurd (omega (arith, since, before)); left = λ p other. refl }

pub filled_more : (old new : List ℕ) (from place entry : ℕ) → from ≤ place → place < length old → IsFilledTo old new from place entry
    → IsFilledTo old (set new place entry) from (place + 1) entry
filled_more old new from place entry since within is = record {
  size = length-set new place entry ∙ is.size;
  written = λ p from_p before. elim (cases_lt p place) [
    | inl earlier ↦ set_other new place p entry (λ same. omega (arith, earlier, same)) ∙ is.written p from_p earlier
    | inr here ↦
        let same : place ≡ p = omega (arith, here, before) in
        subst (λ q. slice_get (set new place entry) q ≡ Some entry) same (set_same new place entry (omega (arith, within, is.size)))
  ];
  left = λ p other. set_other new place p entry (λ same. other (omega (arith, since, same)) (omega (arith, same))) ∙ is.left p (λ from_p before. other
      from_p (omega (arith, before)));
}

pub filled_all : (old new : List ℕ) (from to place entry : ℕ) → place ≡ to + 1 → IsFilledTo old new from place entry → IsFilled old new from to entry
filled_all old new from to place entry end is = record {
  size = is.size;
  written = λ p since upto. is.written p since (omega (arith, end, upto));
  left = λ p other. is.left p (λ since before. other since (omega (arith, end, before)));
}
