-- The lines of a script.
use Rattle.std.specs.Prelude.{ℕ, List, [], ◌∷◌, ◌==◌, if◌then◌else◌}

-- the byte goes before the first line, or makes one
abbrev pub before_first_line : ℕ → List (List ℕ) → List (List ℕ)
before_first_line byte [] = (byte ∷ []) ∷ []
before_first_line byte (line ∷ lines) = (byte ∷ line) ∷ lines

-- the lines of the bytes: each ends before a byte 10, and the last may end where the bytes end
unfoldable pub lines_of : List ℕ → List (List ℕ)
lines_of [] = []
lines_of (byte ∷ bytes) = if byte == 10 then [] ∷ lines_of bytes else before_first_line byte (lines_of bytes)
