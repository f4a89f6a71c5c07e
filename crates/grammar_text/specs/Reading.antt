-- Reading a line from left to right, up to the first wrong piece.
use Rattle.std.specs.Prelude.{◌≡◌, ℕ, zero, suc, Bool, false, ◌==◌, nat_lt, List, [], ◌∷◌, length, drop, Option, Some, None, Result, Ok, Err, if◌then◌else◌}
use Rattle.std.specs.Prelude.{codes}
use Rattle.std.specs.Option.{option_map, option_map_or}
use Rattle.std.specs.Str.{bytes_eq}
use Rattle.grammar_text.specs.declared.limits.TheConstants.{EDIT_LIMIT}
use Rattle.grammar_text.specs.declared.bad_edit.BadEdit.{BadEdit}
use Rattle.grammar_text.specs.declared.bad_edit.BadEdit.TheVariants.{Shape, BadName, BadLiteral, TooManySymbols, TooLong, NoMemory}
use Rattle.grammar_text.specs.declared.symbol.Symbol.{Symbol}
use Rattle.grammar_text.specs.declared.symbol.Symbol.TheVariants.{Named, Literal}
use Rattle.grammar_text.specs.declared.edit.RuleText.{RuleText}
use Rattle.grammar_text.specs.declared.edit.DefText.{DefText}
use Rattle.grammar_text.specs.declared.edit.Edit.{Edit}
use Rattle.grammar_text.specs.declared.edit.Edit.TheVariants.{AddRule, DropRule, AddToken, DropToken, AddSkip, DropSkip}
use Rattle.grammar_text.specs.Names.{is_name}
use Rattle.grammar_text.specs.Pieces.{Place, start_of, offset_of, trimmed, piece_of, behind_piece, blank_led, is_empty}
use Rattle.grammar_text.specs.Spelling.{unescaped}
use Rattle.grammar_text.specs.Canonical.{canonical}
use Rattle.grammar_text.specs.Limits.{Room, the_limits}

infixl 10 ◌>>=◌
abbrev pub ◌>>=◌ : {A B : Type 0} → Result A BadEdit → (A → Result B BadEdit) → Result B BadEdit
(Ok x) >>= f = f x
(Err e) >>= f = Err e

-- A refusal is the one that reading meets first, unless memory ran out.
abbrev pub IsRefusal : {A : Type 0} → BadEdit → Result A BadEdit → Type 0
IsRefusal NoMemory read = Unit {0}
IsRefusal (Shape offset) read = read ≡ Err (Shape offset)
IsRefusal (BadName offset) read = read ≡ Err (BadName offset)
IsRefusal (BadLiteral offset) read = read ≡ Err (BadLiteral offset)
IsRefusal (TooManySymbols offset) read = read ≡ Err (TooManySymbols offset)
IsRefusal (TooLong offset) read = read ≡ Err (TooLong offset)

-- What a call returned is what reading gives, unless memory ran out.
abbrev pub IsRead : {A : Type 0} → Result A BadEdit → Result A BadEdit → Type 0
IsRead (Ok x) read = read ≡ Ok x
IsRead (Err e) read = IsRefusal e read

-- the same line with these bytes left
abbrev pub at : Place → List ℕ → Place
at place left = record place { left = left }

-- behind the blanks that come next
abbrev pub piece_at : Place → Place
piece_at place = at place (trimmed place.left)

-- behind the piece that begins here
abbrev pub piece_end : Place → Place
piece_end place = at place (behind_piece place.left)

-- ---- the pieces of a rule

-- behind this word, which must come next
unfoldable pub word_at : List ℕ → Place → Result Place BadEdit
word_at word place =
    let next = piece_at place in
    if bytes_eq (piece_of next.left) word then Ok (piece_end next) else Err (Shape (offset_of next))

-- a name, which must come next, and the place behind it
unfoldable pub name_at : Place → Result (List ℕ × Place) BadEdit
name_at place =
    let next = piece_at place in
    if is_empty next.left then Err (Shape (offset_of next)) else
    if is_name (piece_of next.left) then Ok (piece_of next.left, piece_end next) else Err (BadName (offset_of next))

-- one byte of a literal, by an escape or by itself, and the bytes behind it
abbrev pub byte_at : List ℕ → Option (ℕ × List ℕ)
byte_at [] = None
byte_at (first ∷ []) = if first == 34 then None else if first == 92 then None else Some (first, [])
byte_at (first ∷ letter ∷ rest) =
    if first == 34 then None else
    if first == 92 then option_map (λ byte. (byte, rest)) (unescaped letter) else Some (first, letter ∷ rest)

-- what is left behind the closing quote
abbrev pub behind_quote : List ℕ → Option (List ℕ)
behind_quote [] = None
behind_quote (first ∷ rest) = if first == 34 then Some rest else None

-- this byte before what was read
abbrev pub led_by : ℕ → Option (List ℕ × List ℕ) → Option (List ℕ × List ℕ)
led_by byte read = option_map (λ found. (byte ∷ found.0, found.1)) read

-- the bytes up to a literal's closing quote, as many as there is room for, and what is left behind it
unfoldable pub literal_at : ℕ → List ℕ → Option (List ℕ × List ℕ)
literal_at zero text = option_map (λ rest. ([], rest)) (behind_quote text)
literal_at (suc room) text =
    option_map_or (λ next. led_by next.0 (literal_at room next.1)) (byte_at text) (option_map (λ rest. ([], rest)) (behind_quote text))

-- a literal that begins at this place, from what was read behind its opening quote
abbrev pub literal_from : Place → Option (List ℕ × List ℕ) → Result (Symbol × Place) BadEdit
literal_from place None = Err (BadLiteral (offset_of place))
literal_from place (Some found) =
    if is_empty found.0 then Err (BadLiteral (offset_of place)) else
    if blank_led found.1 then Ok (Literal found.0, at place found.1) else Err (Shape (offset_of (at place found.1)))

abbrev pub is_quoted : List ℕ → Bool
is_quoted [] = false
is_quoted (first ∷ others) = first == 34

-- the symbol that begins at this place, and the place behind it
unfoldable pub symbol_from : Room → Place → Result (Symbol × Place) BadEdit
symbol_from room place =
    if is_quoted place.left then literal_from place (literal_at room.literal (drop 1 place.left)) else
    if is_name (piece_of place.left) then Ok (Named (piece_of place.left), piece_end place) else Err (BadName (offset_of place))

-- the symbols up to the line's end, not more than this many
unfoldable pub symbols_at : Room → ℕ → Place → Result (List Symbol) BadEdit
symbols_at room zero place =
    let next = piece_at place in
    if is_empty next.left then Ok [] else Err (TooManySymbols (offset_of next))
symbols_at room (suc count) place =
    let next = piece_at place in
    if is_empty next.left then Ok [] else
    (symbol_from room next >>= λ first. symbols_at room count first.1 >>= λ others. Ok (first.0 ∷ others))

-- ---- what stands behind the keyword

unfoldable pub rule_at : Room → Place → Result RuleText BadEdit
rule_at room place = do
  left ← name_at place
  behind ← word_at (codes "::=") left.1
  right ← symbols_at room room.right behind
  Ok (record { left = left.0; right = right })

-- all that is left of the line, from the first byte that is no blank
unfoldable pub expression_at : Place → Result (List ℕ) BadEdit
expression_at place =
    let next = piece_at place in
    if is_empty next.left then Err (Shape (offset_of next)) else Ok next.left

unfoldable pub definition_at : Place → Result DefText BadEdit
definition_at place = do
  name ← name_at place
  behind ← word_at (codes "=") name.1
  expression ← expression_at behind
  Ok (record { name = name.0; expression = expression })

-- a name, and nothing else
unfoldable pub last_name_at : Place → Result (List ℕ) BadEdit
last_name_at place = do
  name ← name_at place
  if is_empty (piece_at name.1).left then Ok name.0 else Err (Shape (offset_of (piece_at name.1)))

-- ---- the line

-- an edit that drops something, behind its first piece
unfoldable pub dropped_at : Room → Place → Result Edit BadEdit
dropped_at room place =
    let next = piece_at place in
    if bytes_eq (piece_of next.left) (codes "rule") then (rule_at room (piece_end next) >>= λ rule. Ok (DropRule rule)) else
    if bytes_eq (piece_of next.left) (codes "token") then (last_name_at (piece_end next) >>= λ name. Ok (DropToken name)) else
    if bytes_eq (piece_of next.left) (codes "skip") then (last_name_at (piece_end next) >>= λ name. Ok (DropSkip name)) else
    Err (Shape (offset_of next))

-- an edit, by its first piece
unfoldable pub edit_at : Room → Place → Result Edit BadEdit
edit_at room place =
    let next = piece_at place in
    if bytes_eq (piece_of next.left) (codes "rule") then (rule_at room (piece_end next) >>= λ rule. Ok (AddRule rule)) else
    if bytes_eq (piece_of next.left) (codes "token") then (definition_at (piece_end next) >>= λ definition. Ok (AddToken definition)) else
    if bytes_eq (piece_of next.left) (codes "skip") then (definition_at (piece_end next) >>= λ definition. Ok (AddSkip definition)) else
    if bytes_eq (piece_of next.left) (codes "drop") then dropped_at room (piece_end next) else
    Err (Shape (offset_of next))

-- the edit that the line is, or its first wrong piece
unfoldable pub edit_of : List ℕ → Result Edit BadEdit
edit_of line = do
  edit ← edit_at the_limits (start_of line)
  if nat_lt EDIT_LIMIT (length (canonical edit)) then Err (TooLong 0) else Ok edit
