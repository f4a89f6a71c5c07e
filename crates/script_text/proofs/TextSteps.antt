-- Reading a text from its start.
use Rattle.std.proofs.Common.{◌≡◌, ℕ, List, [], ◌∷◌, ◌++◌, length, Option, Some, None, option_map, refl, ap, append_assoc, append-nil, sym, arith}
use Rattle.script_text.specs.Texts.{with_byte_before, text_written}

-- what was read, before the text of the rest
abbrev pub with_front : List ℕ → Option (List ℕ) → Option (List ℕ)
with_front front rest = option_map (λ text. front ++ text) rest

-- one more byte was read
pub with_front-with_byte : (front : List ℕ) (byte : ℕ) (rest : Option (List ℕ))
    → with_front front (with_byte_before (Some byte) rest) ≡ with_front (front ++ byte ∷ []) rest
with_front-with_byte front byte None = refl
with_front-with_byte front byte (Some text) = ap Some (sym (append_assoc front (byte ∷ []) text))

-- nothing is left to read
pub with_front-end : (front rest : List ℕ) → length rest ≡ 0 → with_front front (text_written rest) ≡ Some front
unfolding text_written
with_front-end front [] e = ap Some (append-nil front)
with_front-end front (byte ∷ rest) e = absurd (omega arith)
