-- A row as a function from the index to the word, and the path of a key through a page.
use Rattle.std.specs.Prelude.{ℕ, zero, suc, ◌+◌, ◌*◌, ◌/◌, ◌%◌, ◌^◌, List, [], ◌∷◌, bit_xor}
use Rattle.pin_rule.specs.declared.sizes.Sizes.{Sizes}

-- n words from an index on
abbrev pub words_of : (ℕ → ℕ) → ℕ → ℕ → List ℕ
words_of f from zero = []
words_of f from (suc n) = f from ∷ words_of f (suc from) n

abbrev pub key_of : (ℕ → ℕ) → List ℕ
key_of f = words_of f 2 (f 0)

-- the whole row: its two lengths, its key, its payload
abbrev pub content_of : (ℕ → ℕ) → List ℕ
content_of f = words_of f 0 (2 + (f 0 + f 1))

abbrev pub hashed : ℕ → List ℕ → ℕ
hashed h [] = h
hashed h (w ∷ ws) = hashed ((bit_xor h w * 0x9E3779B97F4A7C15) % 2 ^ 64) ws

-- the place of the key's path after this many steps
unfoldable pub on_path : Sizes → List ℕ → ℕ → ℕ
on_path z key step = (hashed 0 key / 2 ^ 32 + step) % z.places
