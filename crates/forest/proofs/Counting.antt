-- How many distinct elements there are.
use Rattle.std.proofs.Common.{◌≡◌, ℕ, zero, suc, ◌<◌, ◌≤◌, inl, inr, List, [], ◌∷◌, length, refl, sym, ◌∙◌, ap, subst, arith, Contains}
use Rattle.forest.specs.Distinct.{IsDistinct}
use Rattle.forest.proofs.Ascending.{contains_here, contains_there, contains_cases}

-- the list without its k-th element
without : {X : Type 0} → List X → ℕ → List X
without [] k = []
without (y ∷ ys) zero = ys
without (y ∷ ys) (suc k) = y ∷ without ys k

length-without : {X : Type 0} (ys : List X) (k : ℕ) → k < length ys → suc (length (without ys k)) ≡ length ys
unfolding without
length-without [] k l = absurd (omega arith)
length-without (y ∷ ys) zero l = refl
length-without (y ∷ ys) (suc k) l = ap suc (length-without ys k (omega arith))

-- an element apart from the one at k is still there
still_there : {X : Type 0} (ys : List X) (x z : X) (c : Contains ys x) → Contains ys z → (z ≡ x → ⊥) → Contains (without ys c.0) z
unfolding without
still_there [] x z c d ne = absurd (omega (arith, c.1))
still_there (y ∷ ys) x z (zero, l, e) d ne = elim (contains_cases y ys z d) [ inl f ↦ absurd (ne (sym f ∙ e)) | inr c ↦ c ]
still_there (y ∷ ys) x z (suc k, l, e) d ne = elim (contains_cases y ys z d) [
  | inl f ↦ subst (λ w. Contains (y ∷ without ys k) w) f (contains_here y (without ys k))
  | inr c ↦ contains_there y (without ys k) z (still_there ys x z (k, omega arith, e) c ne)
]

-- distinct elements of a list are at most as many as the list's
pub at_most : {X : Type 0} (xs ys : List X) → IsDistinct xs → ((x : X) → Contains xs x → Contains ys x) → length xs ≤ length ys
at_most [] ys d f = omega arith
at_most (x ∷ xs) ys d f =
    let c = f x (contains_here x xs) in
    let rest : length xs ≤ length (without ys c.0) = at_most xs (without ys c.0) d.1 (λ z m. still_there ys x z c (f z (contains_there x xs z m))
    (λ e. d.0 (subst (λ w. Contains xs w) e m))) in
    omega (arith, length-without ys c.0 c.1)
