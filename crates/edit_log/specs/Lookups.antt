-- What the look-ups of a grammar tell.
use Rattle.std.specs.Prelude.{◌≡◌, ℕ, ◌==◌, ◌↔◌, List, Option, Some, option_map, find, filter, map, position, Contains}
use Rattle.std.specs.List.Sorted.{IsStrictlySortedBy}
use Rattle.grammar_text.specs.declared.symbol.Symbol.{Symbol}
use Rattle.grammar_text.specs.declared.symbol.Symbol.TheVariants.{Literal}
use Rattle.grammar_text.specs.Sameness.{spelling_eq}
use Rattle.forest.specs.declared.symbols.SymbolId.{SymbolId}
use Rattle.forest.specs.declared.rules.RuleId.{RuleId}
use Rattle.forest.specs.declared.rules.Rule.{Rule}
use Rattle.regex_ast.specs.Expressions.{Expression}
use Rattle.regex_ast.specs.Refusals.{SpellsWithinLimits}
use Rattle.regex_ast.specs.Positions.{Table, ArePositionsOf, ArePositionsOfLiteral}
use Rattle.edit_log.specs.declared.definitions.DefId.{DefId}
use Rattle.edit_log.specs.declared.definitions.DefId.TheVariants.{Literal as literal, Named as named}
use Rattle.edit_log.specs.Symbols.{symbol_at}
use Rattle.edit_log.specs.History.{Definition, Grammar}
use Rattle.edit_log.specs.Live.{definition_of, definition_cmp}

-- the numbers of the live rules with this left side
abbrev pub numbers_of_left : List Rule → SymbolId → List RuleId
numbers_of_left rules left = map (λ r. r.number) (filter (λ r. r.left.0 == left.0) rules)

-- the live rule with this number
abbrev pub rule_of : List Rule → RuleId → Option Rule
rule_of rules number = find (λ r. r.number.0 == number.0) rules

-- the number of the symbol, if it ever appeared
abbrev pub known_number : List Symbol → Symbol → Option SymbolId
known_number symbols symbol = option_map (λ place. record { 0 = place }) (position (spelling_eq symbol) symbols)

-- the definitions are exactly these, in their order
pub record ListsDefinitions (Is : DefId → Type 0) (definitions : List DefId) : Type 0 where
  pub order : IsStrictlySortedBy definition_cmp definitions
  pub members : (definition : DefId) → Contains definitions definition ↔ Is definition

-- the positions of a literal are those of its bytes, and the positions of a token or a skip those of its expression
abbrev pub ArePositionsFor : Grammar → DefId → Table → Type 0
ArePositionsFor grammar (literal symbol) table = (bytes : List ℕ) × (symbol_at grammar.symbols symbol ≡ Literal bytes) × ArePositionsOfLiteral bytes table
ArePositionsFor grammar (named number) table =
    (live : Definition) × (definition_of grammar number ≡ Some live) × (e : Expression) × SpellsWithinLimits live.expression e × ArePositionsOf e table
