-- Reading an edit: what is spelled so is read, and a line spells one edit.
use Rattle.std.proofs.Common.{◌≡◌, ℕ, ◌+◌, ◌≤◌, true, List, [], ◌∷◌, ◌++◌, length, Result, Ok, Err, refl, sym, ap, ◌∙◌, arith}
use Rattle.std.specs.Prelude.{IfOk, codes}
use Rattle.std.specs.List.{AllByRecursion}
use Rattle.std.proofs.lemmas.Bool.{le-ltb}
use Rattle.grammar_text.specs.declared.limits.TheConstants.{EDIT_LIMIT}
use Rattle.grammar_text.specs.declared.bad_edit.BadEdit.{BadEdit}
use Rattle.grammar_text.specs.declared.symbol.Symbol.{Symbol}
use Rattle.grammar_text.specs.declared.symbol.Symbol.TheVariants.{Named, Literal}
use Rattle.grammar_text.specs.declared.edit.RuleText.{RuleText}
use Rattle.grammar_text.specs.declared.edit.DefText.{DefText}
use Rattle.grammar_text.specs.declared.edit.Edit.{Edit}
use Rattle.grammar_text.specs.declared.edit.Edit.TheVariants.{AddRule, DropRule, AddToken, DropToken, AddSkip, DropSkip}
use Rattle.grammar_text.specs.Names.{IsName}
use Rattle.grammar_text.specs.Pieces.{IsLine, AreBytes, Place, trimmed, piece_of, behind_piece, blank_led}
use Rattle.grammar_text.specs.Spelling.{AreBlanks, keyword_of, SpellsSymbols, IsExpressionText, BeginsWith, Spells}
use Rattle.grammar_text.specs.Canonical.{canonical}
use Rattle.grammar_text.specs.Limits.{Room, the_limits, SymbolFits, RightFits, PartsFit, IsWithinLimits, IsSound}
use Rattle.grammar_text.specs.Reading.{IsRead, word_at, name_at, rule_at, expression_at, definition_at, last_name_at, dropped_at, edit_at, edit_of}
use Rattle.grammar_text.proofs.Gaps.{led-gap, led-blanks, empty-blanks, trimmed-blanks, piece-word, behind-word}
use Rattle.grammar_text.proofs.EditLaws.{edit_of_takes}
use Rattle.grammar_text.proofs.Soundness.{is_sound}
use Rattle.grammar_text.proofs.Words.{ok_is, word_again, name_again}
use Rattle.grammar_text.proofs.SymbolLaws.{not_empty, symbols_again, symbols_led}

-- ---- what stands behind the keyword

-- a place of a line with this text left
abbrev place_of : ℕ → List ℕ → Place
place_of len text = record { len = len; left = text }

words_led : (text word : List ℕ) (words : List (List ℕ)) (rest : List ℕ) → BeginsWith text (word ∷ words) rest → blank_led text ≡ true
words_led text word words rest begins = rw begins.4 (led-gap begins.0 (word ++ begins.1) begins.2)

rule_again : (room : Room) (len : ℕ) (text : List ℕ) (rule : RuleText) (rest : List ℕ) → BeginsWith text (rule.left ∷ codes "::=" ∷ []) rest → IsName rule.left
    → SpellsSymbols rest rule.right → RightFits room rule.right
    → rule_at room (place_of len text) ≡ Ok rule
unfolding rule_at
rule_again room len text rule rest words named spelled fits =
    let arrow = words.3 in
    let ended : words.1 ≡ arrow.0 ++ (codes "::=" ++ rest) = arrow.4 ∙ ap (λ (t : List ℕ). arrow.0 ++ (codes "::=" ++ t)) arrow.3 in
    let name : name_at (place_of len text) ≡ Ok (rule.left, place_of len words.1) =
    ap (λ (t : List ℕ). name_at (place_of len t)) words.4 ∙ name_again len words.0 rule.left words.1 words.2 named
    (words_led words.1 (codes "::=") [] rest arrow) in
    let word : word_at (codes "::=") (place_of len words.1) ≡ Ok (place_of len rest) =
    ap (λ (t : List ℕ). word_at (codes "::=") (place_of len t)) ended ∙ word_again len arrow.0 (codes "::=") rest arrow.2 (omega arith) refl
    (symbols_led rest rule.right spelled) in
    rw (name, word, symbols_again room room.right len rest rule.right spelled fits.0 fits.1) refl

expression_again : (len : ℕ) (text expression : List ℕ) → IsExpressionText text expression → expression_at (place_of len text) ≡ Ok expression
unfolding expression_at
expression_again len text expression spelled =
    let front : trimmed text ≡ expression = ap trimmed spelled.4 ∙ trimmed-blanks spelled.0 expression spelled.1.0 ∙ spelled.3 in
    rw (front, not_empty expression spelled.2) refl

expression_led : (text expression : List ℕ) → IsExpressionText text expression → blank_led text ≡ true
expression_led text expression spelled = rw spelled.4 (led-gap spelled.0 expression spelled.1)

definition_again : (len : ℕ) (text : List ℕ) (definition : DefText) (rest : List ℕ) → BeginsWith text (definition.name ∷ codes "=" ∷ []) rest
    → IsName definition.name → IsExpressionText rest definition.expression
    → definition_at (place_of len text) ≡ Ok definition
unfolding definition_at
definition_again len text definition rest words named spelled =
    let equals = words.3 in
    let ended : words.1 ≡ equals.0 ++ (codes "=" ++ rest) = equals.4 ∙ ap (λ (t : List ℕ). equals.0 ++ (codes "=" ++ t)) equals.3 in
    let name : name_at (place_of len text) ≡ Ok (definition.name, place_of len words.1) =
    ap (λ (t : List ℕ). name_at (place_of len t)) words.4 ∙ name_again len words.0 definition.name words.1 words.2 named
    (words_led words.1 (codes "=") [] rest equals) in
    let word : word_at (codes "=") (place_of len words.1) ≡ Ok (place_of len rest) =
    ap (λ (t : List ℕ). word_at (codes "=") (place_of len t)) ended ∙ word_again len equals.0 (codes "=") rest equals.2 (omega arith) refl
    (expression_led rest definition.expression spelled) in
    rw (name, word, expression_again len rest definition.expression spelled) refl

last_name_again : (len : ℕ) (text name rest : List ℕ) → BeginsWith text (name ∷ []) rest → IsName name → AreBlanks rest
    → last_name_at (place_of len text) ≡ Ok name
unfolding last_name_at
last_name_again len text name rest words named blank =
    let led : blank_led words.1 ≡ true = rw words.3 (led-blanks rest blank) in
    let read : name_at (place_of len text) ≡ Ok (name, place_of len words.1) =
    ap (λ (t : List ℕ). name_at (place_of len t)) words.4 ∙ name_again len words.0 name words.1 words.2 named led in
    let none : trimmed words.1 ≡ [] = ap trimmed words.3 ∙ empty-blanks rest blank in
    rw (read, none) refl

-- ---- by the first piece

-- a text that is led by a blank begins with no piece
no_piece : (text : List ℕ) → blank_led text ≡ true → piece_of text ≡ []
no_piece text led = piece-word [] text refl led

no_piece_behind : (text : List ℕ) → blank_led text ≡ true → behind_piece text ≡ text
no_piece_behind text led = behind-word [] text refl led

drop_rule_again : (room : Room) (len : ℕ) (text : List ℕ) (rule : RuleText) (rest : List ℕ) → BeginsWith text (codes "rule" ∷ rule.left ∷ codes "::=" ∷ []) rest
    → IsName rule.left → SpellsSymbols rest rule.right
    → RightFits room rule.right → dropped_at room (place_of len text) ≡ Ok (DropRule rule)
unfolding dropped_at
drop_rule_again room len text rule rest words named spelled fits =
    let led = words_led words.1 rule.left (codes "::=" ∷ []) rest words.3 in
    let front : trimmed text ≡ codes "rule" ++ words.1 = ap trimmed words.4 ∙ trimmed-blanks words.0 (codes "rule" ++ words.1) words.2.0 in
    rw (front, no_piece words.1 led, no_piece_behind words.1 led, rule_again room len words.1 rule rest words.3 named spelled fits) refl

drop_token_again : (room : Room) (len : ℕ) (text name rest : List ℕ) → BeginsWith text (codes "token" ∷ name ∷ []) rest → IsName name → AreBlanks rest
    → dropped_at room (place_of len text) ≡ Ok (DropToken name)
unfolding dropped_at
drop_token_again room len text name rest words named blank =
    let led = words_led words.1 name [] rest words.3 in
    let front : trimmed text ≡ codes "token" ++ words.1 = ap trimmed words.4 ∙ trimmed-blanks words.0 (codes "token" ++ words.1) words.2.0 in
    rw (front, no_piece words.1 led, no_piece_behind words.1 led, last_name_again len words.1 name rest words.3 named blank) refl

drop_skip_again : (room : Room) (len : ℕ) (text name rest : List ℕ) → BeginsWith text (codes "skip" ∷ name ∷ []) rest → IsName name → AreBlanks rest
    → dropped_at room (place_of len text) ≡ Ok (DropSkip name)
unfolding dropped_at
drop_skip_again room len text name rest words named blank =
    let led = words_led words.1 name [] rest words.3 in
    let front : trimmed text ≡ codes "skip" ++ words.1 = ap trimmed words.4 ∙ trimmed-blanks words.0 (codes "skip" ++ words.1) words.2.0 in
    rw (front, no_piece words.1 led, no_piece_behind words.1 led, last_name_again len words.1 name rest words.3 named blank) refl

line_front : (line : List ℕ) (edit : Edit) (spelled : Spells line edit) → trimmed line ≡ trimmed (keyword_of edit ++ spelled.behind)
line_front line edit spelled = ap trimmed spelled.begins ∙ trimmed-blanks spelled.blanks (keyword_of edit ++ spelled.behind) spelled.blank

pub edit_again : (room : Room) (len : ℕ) (line : List ℕ) (edit : Edit) → Spells line edit → PartsFit room edit → edit_at room (place_of len line) ≡ Ok edit
unfolding edit_at
edit_again room len line (AddRule rule) spelled fits =
    let led = words_led spelled.behind rule.left (codes "::=" ∷ []) spelled.rest spelled.words in
    rw (
      line_front line (AddRule rule) spelled,
      no_piece spelled.behind led,
      no_piece_behind spelled.behind led,
      rule_again room len spelled.behind rule spelled.rest spelled.words spelled.named spelled.tail fits,
    ) refl
edit_again room len line (DropRule rule) spelled fits =
    let led = words_led spelled.behind (codes "rule") (rule.left ∷ codes "::=" ∷ []) spelled.rest spelled.words in
    rw (
      line_front line (DropRule rule) spelled,
      no_piece spelled.behind led,
      no_piece_behind spelled.behind led,
      drop_rule_again room len spelled.behind rule spelled.rest spelled.words spelled.named spelled.tail fits,
    ) refl
edit_again room len line (AddToken definition) spelled fits =
    let led = words_led spelled.behind definition.name (codes "=" ∷ []) spelled.rest spelled.words in
    rw (
      line_front line (AddToken definition) spelled,
      no_piece spelled.behind led,
      no_piece_behind spelled.behind led,
      definition_again len spelled.behind definition spelled.rest spelled.words spelled.named spelled.tail,
    ) refl
edit_again room len line (DropToken name) spelled fits =
    let led = words_led spelled.behind (codes "token") (name ∷ []) spelled.rest spelled.words in
    rw (
      line_front line (DropToken name) spelled,
      no_piece spelled.behind led,
      no_piece_behind spelled.behind led,
      drop_token_again room len spelled.behind name spelled.rest spelled.words spelled.named spelled.tail,
    ) refl
edit_again room len line (AddSkip definition) spelled fits =
    let led = words_led spelled.behind definition.name (codes "=" ∷ []) spelled.rest spelled.words in
    rw (
      line_front line (AddSkip definition) spelled,
      no_piece spelled.behind led,
      no_piece_behind spelled.behind led,
      definition_again len spelled.behind definition spelled.rest spelled.words spelled.named spelled.tail,
    ) refl
edit_again room len line (DropSkip name) spelled fits =
    let led = words_led spelled.behind (codes "skip") (name ∷ []) spelled.rest spelled.words in
    rw (
      line_front line (DropSkip name) spelled,
      no_piece spelled.behind led,
      no_piece_behind spelled.behind led,
      drop_skip_again room len spelled.behind name spelled.rest spelled.words spelled.named spelled.tail,
    ) refl

pub edit_of_again : (line : List ℕ) (edit : Edit) → Spells line edit → IsWithinLimits edit → edit_of line ≡ Ok edit
unfolding edit_of
edit_of_again line edit spelled within =
    rw (edit_again the_limits (length line) line edit spelled within.parts, le-ltb EDIT_LIMIT (length (canonical edit)) within.text) refl

-- ---- what a call gave

pub is_found : (line : List ℕ) (r : Result Edit BadEdit) → IsRead r (edit_of line) → IfOk r (λ edit. Spells line edit × IsWithinLimits edit)
is_found line (Ok edit) given = edit_of_takes line edit given
is_found line (Err e) given = tt

pub all_sound : (line : List ℕ) (r : Result Edit BadEdit) → IsLine line → AreBytes line → IsRead r (edit_of line) → IfOk r IsSound
all_sound line (Ok edit) is bytes given = let read = edit_of_takes line edit given in is_sound line edit is bytes read.0 read.1
all_sound line (Err e) is bytes given = tt

-- ---- room for any two edits

-- the bytes of all literals
bytes_in : List Symbol → ℕ
bytes_in [] = 0
bytes_in (Named name ∷ symbols) = bytes_in symbols
bytes_in (Literal bytes ∷ symbols) = length bytes + bytes_in symbols

symbols_fit : (room : Room) (symbols : List Symbol) → bytes_in symbols ≤ room.literal → AllByRecursion (SymbolFits room) symbols
unfolding bytes_in
symbols_fit room [] le = tt
symbols_fit room (Named name ∷ symbols) le = (tt, symbols_fit room symbols le)
symbols_fit room (Literal bytes ∷ symbols) le = (omega arith, symbols_fit room symbols (omega arith))

right_of : Edit → List Symbol
right_of (AddRule rule) = rule.right
right_of (DropRule rule) = rule.right
right_of (AddToken definition) = []
right_of (DropToken name) = []
right_of (AddSkip definition) = []
right_of (DropSkip name) = []

parts_fit : (room : Room) (edit : Edit) → bytes_in (right_of edit) ≤ room.literal → length (right_of edit) ≤ room.right → PartsFit room edit
unfolding right_of
parts_fit room (AddRule rule) literal right = (right, symbols_fit room rule.right literal)
parts_fit room (DropRule rule) literal right = (right, symbols_fit room rule.right literal)
parts_fit room (AddToken definition) literal right = tt
parts_fit room (DropToken name) literal right = tt
parts_fit room (AddSkip definition) literal right = tt
parts_fit room (DropSkip name) literal right = tt

-- a line spells at most one edit
pub one_edit : (line : List ℕ) (a b : Edit) → Spells line a → Spells line b → a ≡ b
one_edit line a b spells_a spells_b =
    let room : Room = record { literal = bytes_in (right_of a) + bytes_in (right_of b); right = length (right_of a) + length (right_of b) } in
    let reads_a = edit_again room (length line) line a spells_a (parts_fit room a (omega arith) (omega arith)) in
    let reads_b = edit_again room (length line) line b spells_b (parts_fit room b (omega arith) (omega arith)) in
    ok_is a b (sym reads_a ∙ reads_b)
