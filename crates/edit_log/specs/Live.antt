-- Which definitions are live: tokens and skips, and each literal on the right side of a live rule.
use Rattle.std.specs.Prelude.{◌==◌, Bool, true, false, ◌&&◌, Option, Some, None, option_map, find, if◌then◌else◌, IsTrue}
use Rattle.std.specs.List.{list_any}
use Rattle.std.specs.Option.{is_some}
use Rattle.std.specs.Ordering.{nat_cmp}
use Rattle.std.specs.declared.cmp.Ordering.{Ordering}
use Rattle.std.specs.declared.cmp.Ordering.TheVariants.{Less, Greater}
use Rattle.grammar_text.specs.declared.symbol.Symbol.{Symbol}
use Rattle.grammar_text.specs.declared.symbol.Symbol.TheVariants.{Named, Literal}
use Rattle.forest.specs.declared.symbols.SymbolId.{SymbolId}
use Rattle.forest.specs.declared.rules.RuleId.{RuleId}
use Rattle.forest.specs.declared.rules.Rule.{Rule}
use Rattle.edit_log.specs.declared.definitions.DefId.{DefId}
use Rattle.edit_log.specs.declared.definitions.DefId.TheVariants.{Literal as literal, Named as named}
use Rattle.edit_log.specs.declared.definitions.DefKind.{DefKind}
use Rattle.edit_log.specs.declared.definitions.DefKind.TheVariants.{Token, Skip}
use Rattle.edit_log.specs.Symbols.{symbol_at}
use Rattle.edit_log.specs.History.{Definition, Grammar}

abbrev pub is_literal : Symbol → Bool
is_literal (Named name) = false
is_literal (Literal bytes) = true

-- the symbol is on the right side of the rule
abbrev pub uses : SymbolId → Rule → Bool
uses symbol r = list_any (λ part. part.0 == symbol.0) r.right

-- the symbol is a literal on the right side of a live rule
abbrev pub is_live_literal : Grammar → SymbolId → Bool
is_live_literal grammar symbol = is_literal (symbol_at grammar.symbols symbol) && list_any (uses symbol) grammar.rules

-- the live token or skip with this number
abbrev pub definition_of : Grammar → RuleId → Option Definition
definition_of grammar number = find (λ live. live.number.0 == number.0) grammar.definitions

abbrev pub kind_of_definition : Definition → DefKind
kind_of_definition live = if live.is_skip then Skip else Token live.name

-- what a live definition is, and nothing where it is not live: a literal is the token of its own symbol, and a named token that of its name's
abbrev pub kind_of : Grammar → DefId → Option DefKind
kind_of grammar (literal symbol) = if is_live_literal grammar symbol then Some (Token symbol) else None
kind_of grammar (named number) = option_map kind_of_definition (definition_of grammar number)

abbrev pub is_live : Grammar → DefId → Bool
is_live grammar definition = is_some (kind_of grammar definition)

abbrev pub IsLive : Grammar → DefId → Type 0
IsLive grammar definition = IsTrue (is_live grammar definition)

-- literals by the number of their symbol, and then tokens and skips by theirs
abbrev pub definition_cmp : DefId → DefId → Ordering
definition_cmp (literal a) (literal b) = nat_cmp a.0 b.0
definition_cmp (literal a) (named b) = Less
definition_cmp (named a) (literal b) = Greater
definition_cmp (named a) (named b) = nat_cmp a.0 b.0
