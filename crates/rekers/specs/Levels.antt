-- What a parser has done at the end of a level, and what it has where it stops for too many links and splits.
use Rattle.std.specs.Prelude.{◌≡◌, ℕ, List, length}
use Rattle.forest.specs.declared.symbols.SymbolId.{SymbolId}
use Rattle.forest.specs.declared.rules.Rule.{Rule}
use Rattle.rekers.specs.declared.parser.Parser.{Parser}
use Rattle.rekers.specs.declared.parse_error.ParseError.{ParseError}
use Rattle.rekers.specs.declared.parse_error.ParseError.TheVariants.{TooLarge, NoMemory}
use Rattle.rekers.specs.Found.{found}
use Rattle.rekers.specs.Reductions.{IsWorked}
use Rattle.rekers.specs.Sound.{IsSoundParser, ArePlaced}
use Rattle.rekers.specs.Steps.{IsWithinLimit, IsAboveLimit, AreShifted}

-- all levels up to this place are done: all shifts to them and all reductions in them are made, and each state has a node
pub record AreLevelsDone (rules : List Rule) (tokens : List SymbolId) (parser : Parser) (at : ℕ) : Type 0 where
  pub sound : IsSoundParser rules tokens parser
  pub placed : ArePlaced (found parser)
  pub worked : IsWorked rules (found parser) (length parser.stacks.links) (length parser.stacks.nodes)
  pub shifted : AreShifted rules tokens (found parser) parser.level.at
  pub within : IsWithinLimit parser
  pub at_is : parser.level.at ≡ at

-- the parser stopped with more links and splits than a parse may have, each state has a node, and all that was found is sound
pub record IsTooMuch (rules : List Rule) (tokens : List SymbolId) (parser : Parser) (error : ParseError) : Type 0 where
  pub sound : IsSoundParser rules tokens parser
  pub placed : ArePlaced (found parser)
  pub above : IsAboveLimit parser error

-- the parser stopped for that, unless memory ran out
abbrev pub IsStopped : List Rule → List SymbolId → Parser → ParseError → Type 0
IsStopped rules tokens parser (TooLarge count) = IsTooMuch rules tokens parser (TooLarge count)
IsStopped rules tokens parser NoMemory = Unit {0}
