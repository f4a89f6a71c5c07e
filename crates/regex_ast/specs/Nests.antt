-- The reader's state, and how one byte changes it.
use Rattle.std.specs.Prelude.{ℕ, suc, ◌+◌, Bool, true, false, nat_le, Option, Some, None, option_and_then, List, [], ◌∷◌, length, take, ◌≡◌, ◌<◌, Result, Ok}
use Rattle.std.specs.Prelude.{Err}
use Rattle.std.specs.Option.{option_map}
use Rattle.regex_ast.specs.Expressions.{Expression, class, sequence, choice, star, plus, maybe}
use Rattle.regex_ast.specs.Lexing.{lexed}
use Rattle.regex_ast.specs.declared.bad_regex.BadRegex.{BadRegex}
use Rattle.regex_ast.specs.declared.bad_regex.BadRegex.TheVariants.{Shape, EmptyClass, TooDeep, TooManyPositions, NoMemory}
use Rattle.regex_ast.specs.declared.breaches.Breaches.{Breaches}
use Rattle.regex_ast.specs.declared.lexer.Piece.{Piece}
use Rattle.regex_ast.specs.declared.lexer.Piece.TheVariants.{OneOf, Open, Close, Bar, StarSign, PlusSign, MaybeSign}
use Rattle.regex_ast.specs.declared.lexer.Mode.{Mode}
use Rattle.regex_ast.specs.declared.lexer.Mode.TheVariants.{Between, Escaped, Opened, Inside}
use Rattle.regex_ast.specs.declared.lexer.Step.{Step}
use Rattle.regex_ast.specs.declared.lexer.Step.TheVariants.{Refuse, Go, Done}
use Rattle.regex_ast.specs.declared.limits.TheConstants.{DEPTH_LIMIT, POSITION_LIMIT}

-- a level of open parentheses: the branches before the last bar, and the factors before the last one
abbrev pub Layer : Type 0
Layer = Option Expression × Option Expression

-- the outer levels from the innermost on, the branches and the factors of the level that is read, and its last factor
pub data Nest : Type 0 where
  levels : List Layer → Option Expression → Option Expression → Option Expression → Nest

-- a branch with one more factor
abbrev pub joined : Option Expression → Expression → Expression
joined None f = f
joined (Some b) f = sequence b f

abbrev pub settled : Option Expression → Option Expression → Option Expression
settled b None = b
settled b (Some f) = Some (joined b f)

-- the branches with one more
abbrev pub chosen : Option Expression → Expression → Expression
chosen None b = b
chosen (Some c) b = choice c b

-- the expression of a level
abbrev pub level_whole : Option Expression → Option Expression → Expression → Expression
level_whole c b f = chosen c (joined b f)

-- one more factor
abbrev pub pushed : Expression → Nest → Option Nest
pushed e (levels outer c b f) = Some (levels outer c (settled b f) (Some e))

-- the sign applies to the last factor
abbrev pub signed : (Expression → Expression) → Nest → Option Nest
signed sign (levels outer c b None) = None
signed sign (levels outer c b (Some f)) = Some (levels outer c b (Some (sign f)))

-- the stack after a piece, if one may stand here
abbrev pub put : Piece → Nest → Option Nest
put (OneOf set) s = pushed (class set) s
put Open (levels outer c b f) = Some (levels ((c, settled b f) ∷ outer) None None None)
put Close (levels [] c b f) = None
put Close (levels (l ∷ outer) c b None) = None
put Close (levels (l ∷ outer) c b (Some f)) = Some (levels outer l.0 l.1 (Some (level_whole c b f)))
put Bar (levels outer c b None) = None
put Bar (levels outer c b (Some f)) = Some (levels outer (Some (level_whole c b f)) None None)
put StarSign s = signed star s
put PlusSign s = signed plus s
put MaybeSign s = signed maybe s

-- the expression that is read, if it may end here
abbrev pub nest_end : Nest → Option Expression
nest_end (levels [] c b None) = None
nest_end (levels [] c b (Some f)) = Some (level_whole c b f)
nest_end (levels (l ∷ outer) c b f) = None

abbrev pub depth_of : Nest → ℕ
depth_of (levels outer c b f) = length outer

-- the first offset at which the test held
abbrev pub first_offset : Option ℕ → Bool → ℕ → Option ℕ
first_offset (Some before) test at = Some before
first_offset None true at = Some at
first_offset None false at = None

abbrev pub is_nil : List ℕ → Bool
is_nil [] = true
is_nil (x ∷ xs) = false

-- the breaches after a piece that begins at this offset, inside so many parentheses
abbrev pub noted_piece : Piece → (depth at : ℕ) → Breaches → Breaches
noted_piece (OneOf set) depth at f = record {
  classes = f.classes + 1;
  empty = first_offset f.empty (is_nil set) at;
  deep = f.deep;
  many =
      first_offset f.many (nat_le POSITION_LIMIT f.classes) at;
}
noted_piece Open depth at f = record { classes = f.classes; empty = f.empty; deep = first_offset f.deep (nat_le DEPTH_LIMIT depth) at; many = f.many }
noted_piece Close depth at f = f
noted_piece Bar depth at f = f
noted_piece StarSign depth at f = f
noted_piece PlusSign depth at f = f
noted_piece MaybeSign depth at f = f

-- the mode, the stack, the breaches, and where the piece that is read begins
pub data State : Type 0 where
  reading : Mode → Nest → Breaches → ℕ → State

-- the state after a piece, which ends before the offset next
abbrev pub accepted : Piece → Nest → Breaches → (start next : ℕ) → Option State
accepted p s f start next = option_map (λ t. reading Between t (noted_piece p (depth_of s) start f) next) (put p s)

abbrev pub stepped : Step → Nest → Breaches → (start next : ℕ) → Option State
stepped Refuse s f start next = None
stepped (Go m) s f start next = Some (reading m s f start)
stepped (Done p) s f start next = accepted p s f start next

-- the state after the byte at this offset, if it may stand here
abbrev pub after_byte : State → (at byte : ℕ) → Option State
after_byte (reading m s f start) at b = stepped (lexed m b) s f start (suc at)

-- the state after all these bytes
abbrev pub after_bytes : State → ℕ → List ℕ → Option State
after_bytes s at [] = Some s
after_bytes s at (b ∷ bs) = option_and_then (λ t. after_bytes t (suc at) bs) (after_byte s at b)

-- before the first byte
abbrev pub no_breaches : Breaches
no_breaches = record { classes = 0; empty = None; deep = None; many = None }

abbrev pub first_state : State
first_state = reading Between (levels [] None None None) no_breaches 0

-- the expression, or the first limit that it breaks
abbrev pub judged : Option ℕ → Option ℕ → Option ℕ → Expression → Result Expression BadRegex
judged (Some at) deep many e = Err (EmptyClass at)
judged None (Some at) many e = Err (TooDeep at)
judged None None (Some at) e = Err (TooManyPositions at)
judged None None None e = Ok e

abbrev pub judged_if_whole : Option Expression → Breaches → ℕ → Result Expression BadRegex
judged_if_whole None f end = Err (Shape end)
judged_if_whole (Some e) f end = judged f.empty f.deep f.many e

-- the answer where the text ends in this state
abbrev pub answer_of : State → (end : ℕ) → Result Expression BadRegex
answer_of (reading Between s f start) end = judged_if_whole (nest_end s) f end
answer_of (reading Escaped s f start) end = Err (Shape end)
answer_of (reading Opened s f start) end = Err (Shape end)
answer_of (reading (Inside negated set place) s f start) end = Err (Shape end)

-- the byte at this offset may not stand there, or memory ran out
abbrev pub StopsAt : Option State → ℕ → BadRegex → Type 0
StopsAt after at (Shape offset) = (offset ≡ at) × (after ≡ None)
StopsAt after at (EmptyClass offset) = ⊥
StopsAt after at (TooDeep offset) = ⊥
StopsAt after at (TooManyPositions offset) = ⊥
StopsAt after at NoMemory = Unit {0}

-- some byte of the text may not stand there, or memory ran out
abbrev pub StopsReading : List ℕ → BadRegex → Type 0
StopsReading text (Shape at) =
    (at < length text) × ((s : State) × (after_bytes first_state 0 (take at text) ≡ Some s)) × (after_bytes first_state 0 (take (at + 1) text) ≡ None)
StopsReading text (EmptyClass at) = ⊥
StopsReading text (TooDeep at) = ⊥
StopsReading text (TooManyPositions at) = ⊥
StopsReading text NoMemory = Unit {0}
