-- A line is never refused because memory ran out, and only for its length where all its parts are read.
use Rattle.std.proofs.Common.{◌≡◌, ℕ, zero, suc, Bool, true, false, cond, if◌then◌else◌, nat_lt, ◌<◌, ◌↔◌, List, length, drop, Option, Some, None, Result, Ok}
use Rattle.std.proofs.Common.{Err, refl, sym, subst}
use Rattle.std.proofs.lemmas.Bool.{ltb-true, lt-ltb}
use Rattle.std.specs.Prelude.{codes}
use Rattle.std.specs.Str.{bytes_eq}
use Rattle.grammar_text.specs.declared.limits.TheConstants.{EDIT_LIMIT}
use Rattle.grammar_text.specs.declared.bad_edit.BadEdit.{BadEdit}
use Rattle.grammar_text.specs.declared.bad_edit.BadEdit.TheVariants.{Shape, BadName, BadLiteral, TooManySymbols, TooLong, NoMemory}
use Rattle.grammar_text.specs.declared.edit.Edit.{Edit}
use Rattle.grammar_text.specs.Names.{is_name}
use Rattle.grammar_text.specs.Pieces.{Place, start_of, trimmed, piece_of, blank_led, is_empty}
use Rattle.grammar_text.specs.Spelling.{Spells}
use Rattle.grammar_text.specs.Canonical.{canonical}
use Rattle.grammar_text.specs.Limits.{Room, the_limits, PartsFit, IsTooLong}
use Rattle.grammar_text.specs.Reading.{◌>>=◌, piece_at, piece_end, word_at, name_at, literal_at, literal_from, is_quoted, symbol_from, symbols_at, rule_at}
use Rattle.grammar_text.specs.Reading.{expression_at, definition_at, last_name_at, dropped_at, edit_at, edit_of}
use Rattle.grammar_text.proofs.EditLaws.{edit_takes}
use Rattle.grammar_text.proofs.EditReads.{edit_again}

-- a piece is wrong
abbrev IsOther : BadEdit → Type 0
IsOther (Shape offset) = Unit {0}
IsOther (BadName offset) = Unit {0}
IsOther (BadLiteral offset) = Unit {0}
IsOther (TooManySymbols offset) = Unit {0}
IsOther (TooLong offset) = ⊥
IsOther NoMemory = ⊥

-- what was read, or a refusal for a piece
abbrev Tells : {A : Type 0} → Result A BadEdit → Type 0
Tells (Ok x) = Unit {0}
Tells (Err e) = IsOther e

err_is : (a b : BadEdit) → ◌≡◌ {A = Result Edit BadEdit} (Err a) (Err b) → a ≡ b
err_is a b e = cc

bind_tells : {A B : Type 0} (r : Result A BadEdit) (f : A → Result B BadEdit) → Tells r → ((x : A) → Tells (f x)) → Tells (r >>= f)
bind_tells (Ok x) f first later = later x
bind_tells (Err e) f first later = first

choice_tells : {A : Type 0} (b : Bool) (x y : Result A BadEdit) → Tells x → Tells y → Tells (cond b x y)
choice_tells true x y of_x of_y = of_x
choice_tells false x y of_x of_y = of_y

word_tells : (word : List ℕ) (place : Place) → Tells (word_at word place)
unfolding word_at
word_tells word place = choice_tells (bytes_eq (piece_of (trimmed place.left)) word) _ _ tt tt

name_tells : (place : Place) → Tells (name_at place)
unfolding name_at
name_tells place = choice_tells (is_empty (trimmed place.left)) _ _ tt (choice_tells (is_name (piece_of (trimmed place.left))) _ _ tt tt)

literal_tells : (place : Place) (read : Option (List ℕ × List ℕ)) → Tells (literal_from place read)
literal_tells place None = tt
literal_tells place (Some found) = choice_tells (is_empty found.0) _ _ tt (choice_tells (blank_led found.1) _ _ tt tt)

symbol_tells : (room : Room) (place : Place) → Tells (symbol_from room place)
unfolding symbol_from
symbol_tells room place =
    choice_tells (is_quoted place.left) _ _ (literal_tells place (literal_at room.literal (drop 1 place.left)))
    (choice_tells (is_name (piece_of place.left)) _ _ tt tt)

symbols_tell : (room : Room) (count : ℕ) (place : Place) → Tells (symbols_at room count place)
unfolding symbols_at
symbols_tell room zero place = choice_tells (is_empty (trimmed place.left)) _ _ tt tt
symbols_tell room (suc count) place =
    choice_tells (is_empty (trimmed place.left)) _ _ tt
    (bind_tells (symbol_from room (piece_at place)) _ (symbol_tells room (piece_at place)) (λ first.
    bind_tells (symbols_at room count first.1) _ (symbols_tell room count first.1) (λ others. tt)))

rule_tells : (room : Room) (place : Place) → Tells (rule_at room place)
unfolding rule_at
rule_tells room place =
    bind_tells (name_at place) _ (name_tells place) (λ left.
    bind_tells (word_at (codes "::=") left.1) _ (word_tells (codes "::=") left.1) (λ behind.
    bind_tells (symbols_at room room.right behind) _ (symbols_tell room room.right behind) (λ right. tt)))

expression_tells : (place : Place) → Tells (expression_at place)
unfolding expression_at
expression_tells place = choice_tells (is_empty (trimmed place.left)) _ _ tt tt

definition_tells : (place : Place) → Tells (definition_at place)
unfolding definition_at
definition_tells place =
    bind_tells (name_at place) _ (name_tells place) (λ name.
    bind_tells (word_at (codes "=") name.1) _ (word_tells (codes "=") name.1) (λ behind.
    bind_tells (expression_at behind) _ (expression_tells behind) (λ expression. tt)))

last_name_tells : (place : Place) → Tells (last_name_at place)
unfolding last_name_at
last_name_tells place = bind_tells (name_at place) _ (name_tells place) (λ name. choice_tells (is_empty (trimmed name.1.left)) _ _ tt tt)

dropped_tells : (room : Room) (place : Place) → Tells (dropped_at room place)
unfolding dropped_at
dropped_tells room place =
    let next = piece_at place in
    let behind = piece_end next in
    choice_tells (bytes_eq (piece_of next.left) (codes "rule")) _ _ (bind_tells (rule_at room behind) _ (rule_tells room behind) (λ rule. tt))
    (choice_tells (bytes_eq (piece_of next.left) (codes "token")) _ _ (bind_tells (last_name_at behind) _ (last_name_tells behind) (λ name. tt))
    (choice_tells (bytes_eq (piece_of next.left) (codes "skip")) _ _ (bind_tells (last_name_at behind) _ (last_name_tells behind) (λ name. tt)) tt))

edit_tells : (room : Room) (place : Place) → Tells (edit_at room place)
unfolding edit_at
edit_tells room place =
    let next = piece_at place in
    let behind = piece_end next in
    choice_tells (bytes_eq (piece_of next.left) (codes "rule")) _ _ (bind_tells (rule_at room behind) _ (rule_tells room behind) (λ rule. tt))
    (choice_tells (bytes_eq (piece_of next.left) (codes "token")) _ _ (bind_tells (definition_at behind) _ (definition_tells behind) (λ definition. tt))
    (choice_tells (bytes_eq (piece_of next.left) (codes "skip")) _ _ (bind_tells (definition_at behind) _ (definition_tells behind) (λ definition. tt))
    (choice_tells (bytes_eq (piece_of next.left) (codes "drop")) _ _ (dropped_tells room behind) tt)))

-- the edit, if it is short enough
abbrev short_edit : Edit → Result Edit BadEdit
short_edit edit = if nat_lt EDIT_LIMIT (length (canonical edit)) then Err (TooLong 0) else Ok edit

not_memory : (long : Bool) (edit : Edit) → ¬ ((if long then Err (TooLong 0) else Ok edit) ≡ Err NoMemory)
not_memory true edit is = cc
not_memory false edit is = cc

short_or_not : (read : Result Edit BadEdit) → Tells read → ¬ ((read >>= short_edit) ≡ Err NoMemory)
short_or_not (Ok edit) told is = not_memory (nat_lt EDIT_LIMIT (length (canonical edit))) edit is
short_or_not (Err e) told is = subst (λ (why : BadEdit). IsOther why) (err_is e NoMemory is) told

pub never_memory : (line : List ℕ) → ¬ (edit_of line ≡ Err NoMemory)
unfolding edit_of
never_memory line is = short_or_not (edit_at the_limits (start_of line)) (edit_tells the_limits (start_of line)) is

-- the test says that the text is too long
is_long : (long : Bool) (at : ℕ) (edit : Edit) → (if long then Err (TooLong 0) else Ok edit) ≡ Err (TooLong at) → (long ≡ true) × (at ≡ 0)
is_long true at edit is = let same : 0 ≡ at = cc in (refl, sym same)
is_long false at edit is = absurd cc

long_edit : (at : ℕ) (read : Result Edit BadEdit) → Tells read → (read >>= short_edit) ≡ Err (TooLong at)
    → (edit : Edit) × (read ≡ Ok edit) × (EDIT_LIMIT < length (canonical edit)) × (at ≡ 0)
long_edit at (Ok edit) told is =
    let long = is_long (nat_lt EDIT_LIMIT (length (canonical edit))) at edit is in
    (edit, refl, ltb-true EDIT_LIMIT (length (canonical edit)) long.0, long.1)
long_edit at (Err e) told is = absurd (subst (λ (why : BadEdit). IsOther why) (err_is e (TooLong at) is) told)

-- a line is too long where its edit is
pub too_long : (line : List ℕ) (at : ℕ) → (edit_of line ≡ Err (TooLong at)) ↔ ((at ≡ 0) × IsTooLong line)
unfolding edit_of
too_long line at = (
  (λ is.
      let long = long_edit at (edit_at the_limits (start_of line)) (edit_tells the_limits (start_of line)) is in
      let read = edit_takes the_limits (start_of line) long.0 long.1 in
      (long.3, (long.0, read.0, read.1, long.2))),
  λ is.
      let edit = is.1.0 in
      rw (edit_again the_limits (length line) line edit is.1.1 is.1.2, lt-ltb EDIT_LIMIT (length (canonical edit)) is.1.3, is.0) refl,
)

long_why : (long : Bool) (edit : Edit) (why : BadEdit) → (if long then Err (TooLong 0) else Ok edit) ≡ Err why → why ≡ TooLong 0
long_why true edit why is = sym (err_is (TooLong 0) why is)
long_why false edit why is = absurd cc

-- where all parts are read, only the length can be wrong
pub only_too_long : (line : List ℕ) (edit : Edit) (why : BadEdit) → edit_of line ≡ Err why → Spells line edit → PartsFit the_limits edit → why ≡ TooLong 0
unfolding edit_of
only_too_long line edit why is spelled fits =
    long_why (nat_lt EDIT_LIMIT (length (canonical edit))) edit why (rw (edit_again the_limits (length line) line edit spelled fits) at is)
