-- One byte of a text after another, as the reader cuts it into pieces.
use Rattle.std.specs.Prelude.{ℕ, Bool, true, false, ◌==◌, if◌then◌else◌, Option, Some, None, List, []}
use Rattle.regex_ast.specs.Bytes.{only, with_range, complement}
use Rattle.regex_ast.specs.Spelling.{is_special_in_class, escape_of}
use Rattle.regex_ast.specs.declared.lexer.Piece.TheVariants.{OneOf, Open, Close, Bar, StarSign, PlusSign, MaybeSign}
use Rattle.regex_ast.specs.declared.lexer.Place.{Place}
use Rattle.regex_ast.specs.declared.lexer.Place.TheVariants.{Start, Backslash, Byte, Dash, DashBackslash}
use Rattle.regex_ast.specs.declared.lexer.Mode.{Mode}
use Rattle.regex_ast.specs.declared.lexer.Mode.TheVariants.{Between, Escaped, Opened, Inside}
use Rattle.regex_ast.specs.declared.lexer.Step.{Step}
use Rattle.regex_ast.specs.declared.lexer.Step.TheVariants.{Refuse, Go, Done}

-- between two pieces
unfoldable pub after_piece : ℕ → Step
after_piece b =
    if 92 == b then Go Escaped
    else if 91 == b then Go Opened
    else if 93 == b then Refuse
    else if 40 == b then Done Open
    else if 41 == b then Done Close
    else if 124 == b then Done Bar
    else if 42 == b then Done StarSign
    else if 43 == b then Done PlusSign
    else if 63 == b then Done MaybeSign
    else if 46 == b then Done (OneOf (complement (only 10)))
    else Done (OneOf (only b))

-- after a backslash outside a class
abbrev pub after_backslash : Option ℕ → Step
after_backslash None = Refuse
after_backslash (Some b) = Done (OneOf (only b))

-- the bytes of a class at its end
abbrev pub closed : Bool → List ℕ → List ℕ
closed false set = set
closed true set = complement set

-- where a member may begin
unfoldable pub at_start : Bool → List ℕ → ℕ → Step
at_start negated set b =
    if 93 == b then Done (OneOf (closed negated set))
    else if 92 == b then Go (Inside negated set Backslash)
    else if is_special_in_class b then Refuse
    else Go (Inside negated set (Byte b))

-- after a backslash where a member may begin
abbrev pub at_backslash : Bool → List ℕ → Option ℕ → Step
at_backslash negated set None = Refuse
at_backslash negated set (Some b) = Go (Inside negated set (Byte b))

-- after one byte of a class, which may begin a range
unfoldable pub at_byte : Bool → List ℕ → ℕ → ℕ → Step
at_byte negated set low b = if 45 == b then Go (Inside negated set (Dash low)) else at_start negated (with_range set low low) b

-- after the dash of a range
unfoldable pub at_dash : Bool → List ℕ → ℕ → ℕ → Step
at_dash negated set low b =
    if 92 == b then Go (Inside negated set (DashBackslash low))
    else if is_special_in_class b then Refuse
    else Go (Inside negated (with_range set low b) Start)

-- after a backslash behind the dash of a range
abbrev pub at_dash_backslash : Bool → List ℕ → ℕ → Option ℕ → Step
at_dash_backslash negated set low None = Refuse
at_dash_backslash negated set low (Some b) = Go (Inside negated (with_range set low b) Start)

-- inside a class
abbrev pub in_class : Bool → List ℕ → Place → ℕ → Step
in_class negated set Start b = at_start negated set b
in_class negated set Backslash b = at_backslash negated set (escape_of b)
in_class negated set (Byte low) b = at_byte negated set low b
in_class negated set (Dash low) b = at_dash negated set low b
in_class negated set (DashBackslash low) b = at_dash_backslash negated set low (escape_of b)

-- after the bracket that opens a class
unfoldable pub after_bracket : ℕ → Step
after_bracket b = if 94 == b then Go (Inside true [] Start) else at_start false [] b

-- what the reader does at one byte
abbrev pub lexed : Mode → ℕ → Step
lexed Between b = after_piece b
lexed Escaped b = after_backslash (escape_of b)
lexed Opened b = after_bracket b
lexed (Inside negated set place) b = in_class negated set place b
