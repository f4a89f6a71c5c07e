-- How long the literals of an edit are.
use Rattle.std.specs.Prelude.{◌<◌, ◌≤◌, length}
use Rattle.grammar_text.specs.declared.symbol.Symbol.{Symbol}
use Rattle.grammar_text.specs.declared.symbol.Symbol.TheVariants.{Named, Literal}

-- a name, or a literal of 1 to 32 bytes
abbrev pub IsSized : Symbol → Type 0
IsSized (Named name) = Unit {0}
IsSized (Literal bytes) = (0 < length bytes) × (length bytes ≤ 32)
