-- The text that a line of a script writes with escapes.
use Rattle.std.specs.Prelude.{ℕ, List, [], ◌∷◌, ◌==◌, if◌then◌else◌, Option, Some, None}

-- the byte that an escape of this letter stands for: a line end, a tab or a backslash
abbrev pub unescaped_byte : ℕ → Option ℕ
unescaped_byte letter = if letter == 110 then Some 10 else (if letter == 116 then Some 9 else (if letter == 92 then Some 92 else None))

-- the byte before the text, where both are there
abbrev pub with_byte_before : Option ℕ → Option (List ℕ) → Option (List ℕ)
with_byte_before (Some byte) (Some text) = Some (byte ∷ text)
with_byte_before (Some byte) None = None
with_byte_before None text = None

-- the text that is written so: a backslash begins an escape of two bytes, and every other byte stands for itself
unfoldable pub text_written : List ℕ → Option (List ℕ)
text_written [] = Some []
text_written (byte ∷ []) = if byte == 92 then None else Some (byte ∷ [])
text_written (byte ∷ next ∷ bytes) = if byte == 92 then with_byte_before (unescaped_byte next) (text_written bytes) else with_byte_before (Some byte)
    (text_written (next ∷ bytes))
