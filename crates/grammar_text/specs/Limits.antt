-- Which edits are within the limits.
use Rattle.std.specs.Prelude.{ℕ, ◌<◌, ◌≤◌, List, length}
use Rattle.std.specs.List.{AllByRecursion}
use Rattle.grammar_text.specs.declared.limits.TheConstants.{LITERAL_LIMIT, SYMBOL_LIMIT, EDIT_LIMIT}
use Rattle.grammar_text.specs.declared.symbol.Symbol.{Symbol}
use Rattle.grammar_text.specs.declared.symbol.Symbol.TheVariants.{Named, Literal}
use Rattle.grammar_text.specs.declared.edit.Edit.{Edit}
use Rattle.grammar_text.specs.declared.edit.Edit.TheVariants.{AddRule, DropRule, AddToken, DropToken, AddSkip, DropSkip}
use Rattle.grammar_text.specs.Pieces.{IsLine, AreBytes}
use Rattle.grammar_text.specs.Spelling.{Spells}
use Rattle.grammar_text.specs.Canonical.{canonical}

-- room for the bytes of a literal, and for the symbols of a right side
pub record Room : Type 0 where
  pub literal : ℕ
  pub right : ℕ

abbrev pub the_limits : Room
the_limits = record { literal = LITERAL_LIMIT; right = SYMBOL_LIMIT }

abbrev pub SymbolFits : Room → Symbol → Type 0
SymbolFits room (Named name) = Unit {0}
SymbolFits room (Literal bytes) = length bytes ≤ room.literal

-- not too many symbols, each of which fits
abbrev pub RightFits : Room → List Symbol → Type 0
RightFits room symbols = (length symbols ≤ room.right) × AllByRecursion (SymbolFits room) symbols

abbrev pub PartsFit : Room → Edit → Type 0
PartsFit room (AddRule rule) = RightFits room rule.right
PartsFit room (DropRule rule) = RightFits room rule.right
PartsFit room (AddToken definition) = Unit {0}
PartsFit room (DropToken name) = Unit {0}
PartsFit room (AddSkip definition) = Unit {0}
PartsFit room (DropSkip name) = Unit {0}

pub record IsWithinLimits (edit : Edit) : Type 0 where
  pub parts : PartsFit the_limits edit
  pub text : length (canonical edit) ≤ EDIT_LIMIT

-- the line spells an edit whose parts fit, and whose canonical text has too many bytes
abbrev pub IsTooLong : List ℕ → Type 0
IsTooLong line = (edit : Edit) × Spells line edit × PartsFit the_limits edit × (EDIT_LIMIT < length (canonical edit))

-- the canonical text is a line of bytes that spells the edit, within the limits
pub record IsSound (edit : Edit) : Type 0 where
  pub line : IsLine (canonical edit)
  pub bytes : AreBytes (canonical edit)
  pub spelled : Spells (canonical edit) edit
  pub within : IsWithinLimits edit
