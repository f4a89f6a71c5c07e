-- What the answers of a parse tell.
use Rattle.std.specs.Prelude.{◌≡◌, ◌+◌, ◌≤◌, ℕ, List, map, Result, Ok, Err}
use Rattle.forest.specs.declared.symbols.SymbolId.{SymbolId}
use Rattle.forest.specs.declared.symbols.Token.{Token}
use Rattle.forest.specs.declared.rules.Rule.{Rule}
use Rattle.forest.specs.Derivation.{IsSentence}
use Rattle.forest.specs.Forests.{IsForestOf}
use Rattle.rekers.specs.declared.parsed.Parsed.{Parsed}
use Rattle.rekers.specs.declared.parsed.Parsed.TheVariants.{Forest, NoSentence}
use Rattle.rekers.specs.declared.parse_error.ParseError.{ParseError}
use Rattle.rekers.specs.declared.parse_error.ParseError.TheVariants.{TooLarge, NoMemory}
use Rattle.rekers.specs.declared.limits.TheConstants.{SIZE_LIMIT}
use Rattle.rekers.specs.States.{IsLastViable}
use Rattle.rekers.specs.Size.{IsSize, IsAbove}

-- the kinds of the tokens
abbrev pub kinds_of : List Token → List SymbolId
kinds_of tokens = map (λ token. token.kind) tokens

-- a forest is that of the text
abbrev pub TellsForest : List Rule → List SymbolId → Parsed → Type 0
TellsForest rules kinds (Forest forest) = IsForestOf rules kinds forest
TellsForest rules kinds (NoSentence at) = Unit {0}

-- no sentence: START does not derive the text, and this is the last place where a state is reached
abbrev pub TellsNoSentence : List Rule → List SymbolId → Parsed → Type 0
TellsNoSentence rules kinds (Forest forest) = Unit {0}
TellsNoSentence rules kinds (NoSentence at) = (IsSentence rules kinds → ⊥) × IsLastViable rules kinds at

-- the size of the parse is within the limit
abbrev pub IsWithin : List Rule → List SymbolId → Type 0
IsWithin rules kinds = (size : ℕ) × IsSize rules kinds size × (size ≤ SIZE_LIMIT)

-- the size of the parse is above the limit, and the count is the first number that is
abbrev pub TellsTooLarge : List Rule → List SymbolId → ParseError → Type 0
TellsTooLarge rules kinds (TooLarge count) = (count ≡ SIZE_LIMIT + 1) × IsAbove rules kinds SIZE_LIMIT
TellsTooLarge rules kinds NoMemory = Unit {0}

-- P holds where a parse is too large, unless memory ran out
abbrev pub IfTooLarge : {X : Type 0} → Result X ParseError → Type 0 → Type 0
IfTooLarge (Ok parsed) P = Unit {0}
IfTooLarge (Err (TooLarge count)) P = P
IfTooLarge (Err NoMemory) P = Unit {0}

-- P holds, unless memory ran out
abbrev pub UnlessParseNoMemory : {X : Type 0} → Result X ParseError → Type 0 → Type 0
UnlessParseNoMemory (Ok parsed) P = P
UnlessParseNoMemory (Err (TooLarge count)) P = P
UnlessParseNoMemory (Err NoMemory) P = Unit {0}
