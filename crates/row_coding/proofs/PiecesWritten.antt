-- Lists written or read piece by piece: the pieces so far, the next one, and those to come.
use Rattle.std.proofs.Common.{◌≡◌, ℕ, ◌+◌, ◌<◌, ◌≤◌, List, [], ◌∷◌, ◌++◌, length, get_or, take, drop, flat_map, sym, ap, ◌∙◌, arith, append_assoc}
use Rattle.std.proofs.Common.{length-append}
use Rattle.std.proofs.lemmas.List.{take_more, drop_more, take-append-drop}
use Rattle.std.proofs.lemmas.List.Concat.{flat_map-append}

-- one element more is read
pub one_more : {X : Type 0} (old new xs : List X) (i : ℕ) (x d : X) → i < length xs → old ≡ take i xs → new ≡ old ++ x ∷ [] → x ≡ get_or xs i d
    → new ≡ take (i + 1) xs
one_more old new xs i x d below far step is =
    step ∙ ap (λ ys. ys ++ x ∷ []) far ∙ ap (λ y. take i xs ++ y ∷ []) is ∙ sym (take_more xs i d below)

module _ {X : Type 0} (f : X → List ℕ) where
  -- the pieces to come: the next one, and the others
  pub pieces_left : (xs : List X) (i : ℕ) (d : X) → i < length xs → flat_map f (drop i xs) ≡ f (get_or xs i d) ++ flat_map f (drop (i + 1) xs)
  pieces_left xs i d below = ap (flat_map f) (drop_more xs i d below)

  -- the next piece stands first in what is left
  pub next_piece : (now rest : List ℕ) (xs : List X) (i : ℕ) (d : X) → i < length xs → now ≡ flat_map f (drop i xs) ++ rest
      → now ≡ f (get_or xs i d) ++ (flat_map f (drop (i + 1) xs) ++ rest)
  next_piece now rest xs i d below is =
      is ∙ ap (λ ws. ws ++ rest) (pieces_left xs i d below) ∙ append_assoc (f (get_or xs i d)) (flat_map f (drop (i + 1) xs)) rest

  -- the next piece is no longer than what is to come
  pub piece_room : (old now : List ℕ) (xs : List X) (i : ℕ) (d : X) → i < length xs → now ≡ old ++ flat_map f (take i xs)
      → length now + length (f (get_or xs i d)) ≤ length old + length (flat_map f xs)
  piece_room old now xs i d below is =
      let front = flat_map f (take i xs) in
      let next = f (get_or xs i d) in
      let later = flat_map f (drop (i + 1) xs) in
      let whole : flat_map f xs ≡ front ++ (next ++ later) = sym (ap (flat_map f) (take-append-drop i xs)) ∙ flat_map-append f (take i xs) (drop i xs)
      ∙ ap (λ ws. front ++ ws) (pieces_left xs i d below) in
      omega (arith, ap length is, length-append old front, ap length whole, length-append front (next ++ later), length-append next later)
