-- Elements of lists by their places.
use Rattle.std.proofs.Common.{◌≡◌, ℕ, zero, suc, ◌+◌, ◌<◌, ◌⊎◌, inl, inr, List, [], ◌∷◌, ◌++◌}
use Rattle.std.proofs.Common.{map, take, drop, set, get_or, length, refl, sym, ◌∙◌, ap, subst, arith, Contains, slice_get, Some}
use Rattle.std.proofs.Math.Seq.{take-append_seam}
use Rattle.std.proofs.lemmas.List.{take_more}
use Rattle.std.proofs.lemmas.Option.{slice_get_within, slice_get-get_or, get_or_from_slice_get, same_Some}

module _ {X : Type 0} where
  pub one_at : (xs : List X) (k : ℕ) (x y : X) → slice_get xs k ≡ Some x → slice_get xs k ≡ Some y → x ≡ y
  one_at xs k x y e f = same_Some x y (sym e ∙ f)

  pub contains_at : (xs : List X) (k : ℕ) (x : X) → slice_get xs k ≡ Some x → Contains xs x
  contains_at xs k x e = (k, slice_get_within xs k x e, get_or_from_slice_get xs k x x e)

  pub at_contained : (xs : List X) (x : X) (c : Contains xs x) → slice_get xs c.0 ≡ Some x
  at_contained xs x c = slice_get-get_or xs c.0 x c.1 ∙ ap Some c.2

  pub at_left : (xs ys : List X) (k : ℕ) (x : X) → slice_get xs k ≡ Some x → slice_get (xs ++ ys) k ≡ Some x
  at_left [] ys k x e = absurd cc
  at_left (z ∷ xs) ys zero x e = e
  at_left (z ∷ xs) ys (suc k) x e = at_left xs ys k x e

  pub at_end : (xs : List X) (y : X) → slice_get (xs ++ y ∷ []) (length xs) ≡ Some y
  at_end [] y = refl
  at_end (z ∷ xs) y = at_end xs y

  -- an element of a list with one more at its end is one of before, or the last
  pub at_push : (xs : List X) (y : X) (k : ℕ) (x : X) → slice_get (xs ++ y ∷ []) k ≡ Some x → (slice_get xs k ≡ Some x) ⊎ ((k ≡ length xs) × (y ≡ x))
  at_push [] y zero x e = inr (refl, same_Some y x e)
  at_push [] y (suc k) x e = absurd cc
  at_push (z ∷ xs) y zero x e = inl e
  at_push (z ∷ xs) y (suc k) x e = elim (at_push xs y k x e) [ inl f ↦ inl f | inr f ↦ inr (ap suc f.0, f.1) ]

  pub at_set : (xs : List X) (k : ℕ) (y : X) → k < length xs → slice_get (set xs k y) k ≡ Some y
  at_set [] k y l = absurd (omega arith)
  at_set (z ∷ xs) zero y l = refl
  at_set (z ∷ xs) (suc k) y l = at_set xs k y (omega arith)

  pub at_other : (xs : List X) (k j : ℕ) (y : X) → (j ≡ k → ⊥) → slice_get (set xs k y) j ≡ slice_get xs j
  at_other [] k j y ne = refl
  at_other (z ∷ xs) zero zero y ne = absurd (ne refl)
  at_other (z ∷ xs) zero (suc j) y ne = refl
  at_other (z ∷ xs) (suc k) zero y ne = refl
  at_other (z ∷ xs) (suc k) (suc j) y ne = at_other xs k j y (λ e. ne (ap suc e))

  pub take_push : (xs : List X) (k : ℕ) (x : X) → slice_get xs k ≡ Some x → take (k + 1) xs ≡ take k xs ++ x ∷ []
  take_push xs k x e = take_more xs k x (slice_get_within xs k x e) ∙ ap (λ y. take k xs ++ y ∷ []) (get_or_from_slice_get xs k x x e)

  -- all elements that a slice of a whole list wrote
  pub written_back : (xs ys : List X) (n : ℕ) → length ys ≡ n → take n (ys ++ drop (length ys) xs) ≡ ys
  written_back xs ys n e = subst (λ k. take k (ys ++ drop (length ys) xs) ≡ ys) e (take-append_seam ys (drop (length ys) xs))

  -- the element is at the place of an index that was read
  pub read_at : (xs : List X) (k : ℕ) (x : X) → k < length xs → x ≡ get_or xs k x → slice_get xs k ≡ Some x
  read_at xs k x l e = slice_get-get_or xs k x l ∙ ap Some (sym e)

module _ {X Y : Type 0} (f : X → Y) where
  pub map_at : (xs : List X) (k : ℕ) (x : X) → slice_get xs k ≡ Some x → slice_get (map f xs) k ≡ Some (f x)
  map_at [] k x e = absurd cc
  map_at (z ∷ xs) zero x e = ap (λ y. Some (f y)) (same_Some z x e)
  map_at (z ∷ xs) (suc k) x e = map_at xs k x e

  pub map_from : (xs : List X) (k : ℕ) (y : Y) → slice_get (map f xs) k ≡ Some y → (x : X) × (slice_get xs k ≡ Some x) × (f x ≡ y)
  map_from [] k y e = absurd cc
  map_from (z ∷ xs) zero y e = (z, refl, same_Some (f z) y e)
  map_from (z ∷ xs) (suc k) y e = map_from xs k y e

  -- a value in an element's place that f does not tell from it
  pub map_kept : (xs : List X) (k : ℕ) (x y : X) → slice_get xs k ≡ Some x → f y ≡ f x → map f (set xs k y) ≡ map f xs
  map_kept [] k x y e same = refl
  map_kept (z ∷ xs) zero x y e same = ap (λ v. v ∷ map f xs) (same ∙ ap f (sym (same_Some z x e)))
  map_kept (z ∷ xs) (suc k) x y e same = ap (λ vs. f z ∷ vs) (map_kept xs k x y e same)

  -- functions that agree on the elements
  pub map_same : (g : X → Y) (xs : List X) → ((k : ℕ) (x : X) → slice_get xs k ≡ Some x → f x ≡ g x) → map f xs ≡ map g xs
  map_same g [] each = refl
  map_same g (z ∷ xs) each = ap (λ v. v ∷ map f xs) (each 0 z refl) ∙ ap (λ vs. g z ∷ vs) (map_same g xs (λ k x e. each (suc k) x e))
