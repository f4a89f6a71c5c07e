-- What a replica keeps agrees with the grammar that it holds.
use Rattle.std.specs.Prelude.{◌≡◌, ℕ, List, [], map, Option, Vec}
use Rattle.std.specs.declared.alloc.Global.{Global}
use Rattle.std.specs.List.{AllByRecursion}
use Rattle.grammar_text.specs.declared.symbol.Symbol.{Symbol}
use Rattle.grammar_text.specs.declared.edit.RuleText.{RuleText}
use Rattle.forest.specs.declared.rules.RuleId.{RuleId}
use Rattle.forest.specs.declared.rules.Rule.{Rule}
use Rattle.regex_ast.specs.Positions.{Table}
use Rattle.edit_log.specs.declared.definitions.DefId.{DefId}
use Rattle.edit_log.specs.declared.named_definitions.NamedDefinition.{NamedDefinition}
use Rattle.edit_log.specs.History.{Grammar}
use Rattle.edit_log.specs.Facts.{IsWellFormed}
use Rattle.edit_log.specs.Live.{IsLive}
use Rattle.edit_log.specs.Lookups.{ListsDefinitions}
use Rattle.edit_log.specs.Kept.{AreLefts, AreUses, AreLiteralTables, FindsRules, FindsDefinitions}
use Rattle.edit_log.specs.Replicas.{seen_of, HasPositions}

-- the grammar that is held
abbrev pub grammar_in : ℕ → List Symbol → List Rule → List NamedDefinition → Grammar
grammar_in version symbols rules definitions = record { version = version; symbols = symbols; rules = rules; definitions = map seen_of definitions }

pub record Agrees (grammar : Grammar) (number_of_rule : RuleText → Option RuleId) (number_of_name : List ℕ → Option RuleId) (lefts : List (Vec RuleId Global))
    (uses : List ℕ) (literals : List (Option Table))
    (definitions : List NamedDefinition) (live : List DefId) (spare : List Rule) : Type 0 where
  pub well_formed : IsWellFormed grammar
  pub finds_rules : FindsRules grammar number_of_rule
  pub finds_definitions : FindsDefinitions grammar number_of_name
  pub has_lefts : AreLefts grammar.symbols grammar.rules lefts
  pub has_uses : AreUses grammar.symbols grammar.rules uses
  pub has_literals : AreLiteralTables grammar.symbols literals
  pub has_positions : AllByRecursion HasPositions definitions
  pub has_live : ListsDefinitions (IsLive grammar) live
  pub no_spare : spare ≡ []
