-- Rows that are found at the places of a page.
use Rattle.std.specs.Prelude.{◌≡◌, ℕ, ◌+◌, List, [], ◌∷◌, length, slice_index, Option, Some, None}

-- a row that was met at a place, with its words
pub record Found : Type 0 where
  pub row : ℕ
  pub words : List ℕ

-- a whole row has its two lengths and as many words as they say
abbrev pub IsWholeRow : List ℕ → Type 0
IsWholeRow words = length words ≡ 2 + (slice_index words 0 + slice_index words 1)

-- the rows that were found
abbrev pub rows_found : List (Option Found) → List (List ℕ)
rows_found [] = []
rows_found (None ∷ fs) = rows_found fs
rows_found (Some f ∷ fs) = f.words ∷ rows_found fs
