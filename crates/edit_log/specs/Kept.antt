-- What a replica keeps beside its symbols, rules and definitions, and that it agrees with them.
use Rattle.std.specs.Prelude.{◌≡◌, ◌<◌, ℕ, List, length, slice_get, Option, Some, None, option_map, find, Vec, ◌==◌, if◌then◌else◌}
use Rattle.std.specs.declared.alloc.Global.{Global}
use Rattle.std.specs.List.{AllZip, slice_index_or}
use Rattle.std.specs.Option.{option_flatten}
use Rattle.grammar_text.specs.declared.symbol.Symbol.{Symbol}
use Rattle.grammar_text.specs.declared.edit.RuleText.{RuleText}
use Rattle.forest.specs.declared.rules.RuleId.{RuleId}
use Rattle.forest.specs.declared.rules.Rule.{Rule}
use Rattle.regex_ast.specs.Positions.{Table}
use Rattle.edit_log.specs.History.{Grammar, has_name}
use Rattle.edit_log.specs.Verdict.{rule_found}
use Rattle.edit_log.specs.Lookups.{numbers_of_left}
use Rattle.edit_log.specs.Lists.{under, all_occurrences}
use Rattle.edit_log.specs.Replicas.{ArePositionsOfSymbol}

-- the rules under each left side
pub record AreLefts (symbols : List Symbol) (rules : List Rule) (lefts : List (Vec RuleId Global)) : Type 0 where
  pub len : length lefts ≡ length symbols
  pub lists : (place : ℕ) → place < length symbols → under lefts place ≡ numbers_of_left rules (record { 0 = place })

-- how often each symbol stands on a right side
pub record AreUses (symbols : List Symbol) (rules : List Rule) (uses : List ℕ) : Type 0 where
  pub len : length uses ≡ length symbols
  pub counts : (place : ℕ) → place < length symbols → slice_get uses place ≡ Some (all_occurrences (record { 0 = place }) rules)

-- the positions of each literal
abbrev pub AreLiteralTables : List Symbol → List (Option Table) → Type 0
AreLiteralTables symbols literals = AllZip ArePositionsOfSymbol symbols literals

-- each rule is found by how it is written
abbrev pub FindsRules : Grammar → (RuleText → Option RuleId) → Type 0
FindsRules grammar number_of = (r : RuleText) → number_of r ≡ option_map (λ live. live.number) (rule_found grammar r)

-- each token and skip is found by its name
abbrev pub FindsDefinitions : Grammar → (List ℕ → Option RuleId) → Type 0
FindsDefinitions grammar number_of = (name : List ℕ) → number_of name ≡ option_map (λ live. live.number)
    (find (has_name grammar.symbols name) grammar.definitions)

-- the positions of a literal that is used
abbrev pub live_literal : List ℕ → List (Option Table) → ℕ → Option Table
live_literal uses literals place = if slice_index_or uses place 0 == 0 then None else option_flatten (slice_get literals place)
