-- The pieces of a line, which blanks part.
use Rattle.std.specs.Prelude.{IsTrue, not, ℕ, ◌-◌, ◌<◌, Bool, true, false, ◌||◌, ◌==◌, List, [], ◌∷◌, length, if◌then◌else◌}
use Rattle.std.specs.List.{list_all, AllByRecursion}

-- a line has no byte 10
abbrev pub IsLine : List ℕ → Type 0
IsLine bytes = IsTrue (list_all (λ byte. not (byte == 10)) bytes)

-- numbers that a byte may have
abbrev pub AreBytes : List ℕ → Type 0
AreBytes numbers = AllByRecursion (λ number. number < 256) numbers

-- a space or a tab
abbrev pub is_blank : ℕ → Bool
is_blank byte = byte == 32 || byte == 9

-- the bytes from the first that is no blank
abbrev pub trimmed : List ℕ → List ℕ
trimmed [] = []
trimmed (byte ∷ bytes) = if is_blank byte then trimmed bytes else byte ∷ bytes

-- the bytes up to the first blank
abbrev pub piece_of : List ℕ → List ℕ
piece_of [] = []
piece_of (byte ∷ bytes) = if is_blank byte then [] else byte ∷ piece_of bytes

-- the bytes from the first blank
abbrev pub behind_piece : List ℕ → List ℕ
behind_piece [] = []
behind_piece (byte ∷ bytes) = if is_blank byte then byte ∷ bytes else behind_piece bytes

abbrev pub is_empty : List ℕ → Bool
is_empty [] = true
is_empty (byte ∷ bytes) = false

-- a blank comes next, or nothing
abbrev pub blank_led : List ℕ → Bool
blank_led [] = true
blank_led (byte ∷ bytes) = is_blank byte

-- a place in a line: what is left of the line, and how long the line is
pub record Place : Type 0 where
  pub len : ℕ
  pub left : List ℕ

abbrev pub start_of : List ℕ → Place
start_of line = record { len = length line; left = line }

-- how far the place is from the line's first byte
abbrev pub offset_of : Place → ℕ
offset_of place = place.len - length place.left
