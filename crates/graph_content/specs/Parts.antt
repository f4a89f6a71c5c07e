-- The parts of a row, as the tests on its words take them.
use Rattle.std.specs.Prelude.{◌≡◌, ℕ, ◌/◌, ◌==◌, Bool, List, map}
use Rattle.std.specs.List.{list_any}
use Rattle.edit_log.specs.declared.definitions.DefId.{DefId}
use Rattle.isg_states.specs.Marks.{definition_number, mark_number}
use Rattle.row_coding.specs.Words.{item_word, marks_in}
use Rattle.row_coding.specs.Rows.{Key, kernel, scan, row_words}

-- the words are a row of some key
abbrev pub IsRow : List ℕ → Type 0
IsRow words = (key : Key) × (payload : List ℕ) × (words ≡ row_words key payload)

-- the words of the key's items, or of its marks
abbrev pub name_words : Key → List ℕ
name_words (kernel items) = map item_word items
name_words (scan key) = map mark_number (marks_in key)

-- some word is an item of the rule
abbrev pub names_rule : ℕ → List ℕ → Bool
names_rule rule words = list_any (λ word. word / 32 == rule) words

-- one of the definitions has the number
abbrev pub is_among : List DefId → ℕ → Bool
is_among definitions number = list_any (λ definition. definition_number definition == number) definitions

-- some word is a mark of one of the definitions
abbrev pub names_among : List DefId → List ℕ → Bool
names_among definitions words = list_any (λ word. is_among definitions (word / 256)) words
