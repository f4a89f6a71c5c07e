-- Rows by their key and payload.
use Rattle.std.specs.Prelude.{◌≢◌, ℕ, ◌+◌, ◌<◌, List, ◌∷◌, ◌++◌, length}

-- the words of a row
abbrev pub row_of : List ℕ → List ℕ → List ℕ
row_of key payload = length key ∷ length payload ∷ (key ++ payload)

-- the words at a row's start that tell its key
abbrev pub head_of : List ℕ → List ℕ
head_of key = length key ∷ 0 ∷ key

-- the word at index 1 is the payload's length and says nothing of the key
abbrev pub TellsKey : List ℕ → ℕ → Type 0
TellsKey key index = (index < 2 + length key) × (index ≢ 1)
