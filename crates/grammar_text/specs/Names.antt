-- What a name is.
use Rattle.std.specs.Prelude.{ℕ, Bool, false, ◌&&◌, ◌||◌, ◌==◌, nat_le, List, [], ◌∷◌, length, IsTrue}
use Rattle.std.specs.List.{list_all}
use Rattle.grammar_text.specs.declared.limits.TheConstants.{NAME_LIMIT}

-- A to Z, a to z
abbrev pub is_letter : ℕ → Bool
is_letter byte = (nat_le 65 byte && nat_le byte 90) || (nat_le 97 byte && nat_le byte 122)

-- a letter, a digit or an underscore
abbrev pub is_name_byte : ℕ → Bool
is_name_byte byte = is_letter byte || (nat_le 48 byte && nat_le byte 57) || byte == 95

abbrev pub begins_with_letter : List ℕ → Bool
begins_with_letter [] = false
begins_with_letter (first ∷ others) = is_letter first

-- a letter, and then letters, digits and underscores, not too many
abbrev pub is_name : List ℕ → Bool
is_name bytes = nat_le (length bytes) NAME_LIMIT && begins_with_letter bytes && list_all is_name_byte bytes

abbrev pub IsName : List ℕ → Type 0
IsName bytes = IsTrue (is_name bytes)
