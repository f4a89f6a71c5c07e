-- What a line of a script is, by its command word.
use Rattle.std.specs.Prelude.{ℕ, Bool, true, ◌||◌, ◌==◌, List, [], ◌∷◌, drop, if◌then◌else◌, codes}
use Rattle.std.specs.Str.{bytes_eq}
use Rattle.grammar_text.specs.Pieces.{trimmed, piece_of, behind_piece, is_empty}

-- what a command line asks for: an edit, or to parse the text that is written so, or to scan it into tokens, or statistics
pub data Sort : Type 0 where
  EditLine : Sort
  ParseLine : List ℕ → Sort
  TokensLine : List ℕ → Sort
  StatsLine : Sort

-- a blank line or a comment, a line with another command word, or a command line
pub data Form : Type 0 where
  PassedOver : Form
  OtherWord : Form
  Asks : Sort → Form

-- nothing, or the byte `#` first
abbrev pub is_comment : List ℕ → Bool
is_comment [] = true
is_comment (first ∷ others) = first == 35

-- the words that edits begin with
abbrev pub begins_edit : List ℕ → Bool
begins_edit word = bytes_eq word (codes "rule") || bytes_eq word (codes "token") || bytes_eq word (codes "skip") || bytes_eq word (codes "drop")

-- the form of a line with this command word, and these bytes behind it: a text begins behind one blank, and what takes nothing has blanks alone behind it
unfoldable pub form_by : List ℕ → List ℕ → Form
form_by word behind =
    if begins_edit word then Asks EditLine else
    if bytes_eq word (codes "parse") then Asks (ParseLine (drop 1 behind)) else
    if bytes_eq word (codes "tokens") then Asks (TokensLine (drop 1 behind)) else
    if bytes_eq word (codes "stats") then (if is_empty (trimmed behind) then Asks StatsLine else OtherWord) else
    OtherWord

-- the form of the line: its command word is its first piece
unfoldable pub form_of : List ℕ → Form
form_of line = let begun = trimmed line in if is_comment begun then PassedOver else form_by (piece_of begun) (behind_piece begun)
