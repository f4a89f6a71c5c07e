-- Ranks of parts of trails among all lists of so many numbers, so that a walk ends.
use Rattle.std.proofs.Common.{◌≡◌, inl, inr, ℕ, zero, suc, ◌+◌, ◌*◌, ◌<◌, ◌≤◌, List, [], ◌∷◌, length, subst, arith}
use Rattle.std.proofs.Math.Nat.{mul-le-mul_right}
use Rattle.gss.specs.declared.stack_graph.Edge.{Edge}
use Rattle.gss.specs.Trails.{LeadsDown, IsTrailBefore}

-- how many lists of n numbers below the base there are
abbrev pub lists_of : (base n : ℕ) → ℕ
lists_of base zero = 1
lists_of base (suc n) = base * lists_of base n

-- how many of them come before those that begin with the part
abbrev pub rank : (base n : ℕ) → List ℕ → ℕ
rank base zero part = 0
rank base (suc n) [] = 0
rank base (suc n) (link ∷ part) = link * lists_of base n + rank base n part

-- the part has at most n numbers, each below the base
abbrev pub FitsIn : (base n : ℕ) → List ℕ → Type 0
FitsIn base n [] = Unit {0}
FitsIn base zero (link ∷ part) = ⊥
FitsIn base (suc n) (link ∷ part) = (link < base) × FitsIn base n part

module _ (base : ℕ) (some : 0 < base) where
  lists_some : (n : ℕ) → 0 < lists_of base n
  lists_some zero = omega arith
  lists_some (suc n) =
      let more : 1 * lists_of base n ≤ base * lists_of base n = mul-le-mul_right (lists_of base n) some in
      omega (arith, more, lists_some n)

  next_rank : (n link : ℕ) → suc link * lists_of base n ≡ link * lists_of base n + lists_of base n
  next_rank n link = omega arith

  pub rank_below : (n : ℕ) (part : List ℕ) → FitsIn base n part → rank base n part < lists_of base n
  rank_below zero part fits = omega arith
  rank_below (suc n) [] fits = lists_some (suc n)
  rank_below (suc n) (link ∷ part) (below, fits) =
      let more : suc link * lists_of base n ≤ base * lists_of base n = mul-le-mul_right (lists_of base n) below in
      omega (arith, more, next_rank n link, rank_below n part fits)

  pub rank_before : (n : ℕ) (part trail : List ℕ) → FitsIn base n part → FitsIn base n trail → IsTrailBefore part trail → rank base n part < rank base n trail
  rank_before zero [] trail fits fits' before = absurd before
  rank_before (suc n) [] trail fits fits' before = absurd before
  rank_before (suc n) (link ∷ part) [] fits fits' before = absurd before
  rank_before zero (link ∷ part) trail fits fits' before = absurd fits
  rank_before (suc n) (link ∷ part) (x ∷ trail) (below, fits) (below', fits') (inl older) =
      let more : suc link * lists_of base n ≤ x * lists_of base n = mul-le-mul_right (lists_of base n) older in
      omega (arith, more, next_rank n link, rank_below n part fits)
  rank_before (suc n) (link ∷ part) (x ∷ trail) (below, fits) (below', fits') (inr (same, before)) =
      let more = rank_before n part trail fits fits' before in
      subst (λ l. rank base (suc n) (link ∷ part) < rank base (suc n) (l ∷ trail)) same (omega (arith, more))

-- links that lead down fit below one more than the last one
pub fits_down : (links : List Edge) (last top n : ℕ) (part : List ℕ) (node : ℕ) → LeadsDown links last top part node → length part ≤ n
    → FitsIn (suc last) n part
fits_down links last top n [] node down few = tt
fits_down links last top zero (x ∷ part) node down few = absurd (omega (arith, few))
fits_down links last top (suc n) (x ∷ part) node (edge, at, up, le, on) few =
    (omega (arith, le), fits_down links last edge.lower n part node on (omega (arith, few)))
