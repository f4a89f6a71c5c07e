-- What holds of the grammar of each history.
use Rattle.std.specs.Prelude.{◌≡◌, ℕ, ◌+◌, ◌*◌, ◌<◌, ◌≤◌, List, length, map, slice_get, Some, codes}
use Rattle.std.specs.List.{AllByRecursion}
use Rattle.std.specs.List.Sorted.{IsStrictlySortedBy}
use Rattle.std.specs.Ordering.{nat_cmp}
use Rattle.std.specs.declared.cmp.Ordering.{Ordering}
use Rattle.grammar_text.specs.declared.symbol.Symbol.{Symbol}
use Rattle.grammar_text.specs.declared.symbol.Symbol.TheVariants.{Named}
use Rattle.forest.specs.declared.symbols.SymbolId.{SymbolId}
use Rattle.forest.specs.Derivation.{IsNonterminal}
use Rattle.forest.specs.Distinct.{IsDistinct}
use Rattle.forest.specs.Orders.{rule_cmp}
use Rattle.edit_log.specs.declared.limits.TheConstants.{LOG_LIMIT}
use Rattle.edit_log.specs.Symbols.{text_of}
use Rattle.edit_log.specs.History.{Definition, Grammar}

-- the number is that of a name
abbrev pub IsNamed : List Symbol → SymbolId → Type 0
IsNamed symbols number = (name : List ℕ) × (slice_get symbols number.0 ≡ Some (Named name))

-- the number of a rule or a definition: a version up to this one, and not 0
abbrev pub IsNumber : ℕ → ℕ → Type 0
IsNumber version number = (0 < number) × (number ≤ version)

-- tokens and skips, by number
abbrev pub definition_order : Definition → Definition → Ordering
definition_order a b = nat_cmp a.number.0 b.number.0

-- all symbols of the right side have a number, and there are not too many
abbrev pub IsRight : List Symbol → List SymbolId → Type 0
IsRight symbols right = AllByRecursion (λ part. part.0 < length symbols) right × (length right ≤ 16)

pub record IsWellFormed (grammar : Grammar) : Type 0 where
  pub version : grammar.version ≤ LOG_LIMIT
  pub few : length grammar.symbols ≤ 17 * grammar.version + 1
  pub start : slice_get grammar.symbols 0 ≡ Some (Named (codes "START"))
  pub distinct : IsDistinct grammar.symbols
  -- rules
  pub rule_order : IsStrictlySortedBy rule_cmp grammar.rules
  pub rule_numbers : AllByRecursion (λ r. IsNumber grammar.version r.number.0) grammar.rules
  pub lefts : AllByRecursion (λ r. IsNamed grammar.symbols r.left) grammar.rules
  pub rights : AllByRecursion (λ r. IsRight grammar.symbols r.right) grammar.rules
  pub rule_texts : IsDistinct (map (text_of grammar.symbols) grammar.rules)
  -- tokens and skips
  pub definition_order : IsStrictlySortedBy definition_order grammar.definitions
  pub definition_numbers : AllByRecursion (λ live. IsNumber grammar.version live.number.0) grammar.definitions
  pub names : AllByRecursion (λ live. IsNamed grammar.symbols live.name) grammar.definitions
  pub one_each : IsDistinct (map (λ live. live.name) grammar.definitions)
  -- no name is a nonterminal and a token or skip
  pub apart : AllByRecursion (λ live. IsNonterminal grammar.rules live.name → ⊥) grammar.definitions
