-- What a definition is matched by: a literal by its bytes, a token or a skip by its expression.
use Rattle.std.specs.Prelude.{ℕ, ◌≡◌, ◌<◌, List, [], length, map, IsTrue, Some, slice_index_or}
use Rattle.grammar_text.specs.declared.symbol.Symbol.TheVariants.{Literal}
use Rattle.regex_ast.specs.Bytes.{has, only}
use Rattle.regex_ast.specs.Expressions.{Expression, classes_of}
use Rattle.regex_ast.specs.Matching.{IsMarkedWord, IsMarkedLiteral}
use Rattle.regex_ast.specs.Positions.{Begins, Ends, Succeeds}
use Rattle.regex_ast.specs.Refusals.{SpellsWithinLimits}
use Rattle.edit_log.specs.declared.definitions.DefId.{DefId}
use Rattle.edit_log.specs.declared.definitions.DefId.TheVariants.{Literal as literal, Named as named}
use Rattle.edit_log.specs.Symbols.{symbol_at}
use Rattle.edit_log.specs.History.{Definition, Grammar}
use Rattle.edit_log.specs.Live.{IsLive, definition_of}
use Rattle.isg_states.specs.declared.mark.Mark.{Mark}

pub data Pattern : Type 0 where
  bytes : List ℕ → Pattern
  expression : Expression → Pattern

-- the pattern of a definition, whether it is live or not
abbrev pub IsPatternOf : Grammar → DefId → Pattern → Type 0
IsPatternOf grammar (literal symbol) (bytes text) = symbol_at grammar.symbols symbol ≡ Literal text
IsPatternOf grammar (literal symbol) (expression e) = ⊥
IsPatternOf grammar (named number) (bytes text) = ⊥
IsPatternOf grammar (named number) (expression e) = (live : Definition) × (definition_of grammar number ≡ Some live) × SpellsWithinLimits live.expression e

-- a marked word of the pattern: the indices of classes, from the first to the last of a word
abbrev pub MarkedWord : Pattern → List ℕ → Type 0
MarkedWord (bytes text) word = IsMarkedLiteral text word
MarkedWord (expression e) word = IsMarkedWord e word

-- the classes by their index, each as the set of its bytes: of a literal one for each byte
abbrev pub classes_in : Pattern → List (List ℕ)
classes_in (bytes text) = map only text
classes_in (expression e) = classes_of e

-- the definition is live, and this is its pattern
pub record HasPattern (grammar : Grammar) (definition : DefId) (pattern : Pattern) : Type 0 where
  pub live : IsLive grammar definition
  pub is : IsPatternOf grammar definition pattern

-- the mark is an index in the pattern of its definition, which is live
abbrev pub IsMark : Grammar → Mark → Type 0
IsMark grammar mark = (pattern : Pattern) × HasPattern grammar mark.def pattern × (mark.index < length (classes_in pattern))

-- a marked word of its definition begins with it
abbrev pub IsFirstMark : Grammar → Mark → Type 0
IsFirstMark grammar mark = (pattern : Pattern) × HasPattern grammar mark.def pattern × Begins (MarkedWord pattern) mark.index

-- a marked word of its definition ends with it
abbrev pub IsLastMark : Grammar → Mark → Type 0
IsLastMark grammar mark = (pattern : Pattern) × HasPattern grammar mark.def pattern × Ends (MarkedWord pattern) mark.index

-- both are marks of one definition, and a marked word of it has the second directly after the first
abbrev pub FollowsMark : Grammar → Mark → Mark → Type 0
FollowsMark grammar before mark =
    (before.def ≡ mark.def) × ((pattern : Pattern) × HasPattern grammar mark.def pattern × Succeeds (MarkedWord pattern) before.index mark.index)

-- its class has the byte
abbrev pub HasByte : Grammar → Mark → ℕ → Type 0
HasByte grammar mark byte = (pattern : Pattern) × HasPattern grammar mark.def pattern × IsTrue (has (slice_index_or (classes_in pattern) mark.index []) byte)
