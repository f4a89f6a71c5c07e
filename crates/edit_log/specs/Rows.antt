-- What the rows of the symbols keep: of each thing a list, by the numbers of the symbols.
use Rattle.std.specs.Prelude.{◌≡◌, ℕ, List, map, slice_get, Option, Some, Vec}
use Rattle.std.specs.declared.alloc.Global.{Global}
use Rattle.forest.specs.declared.symbols.SymbolId.{SymbolId}
use Rattle.forest.specs.declared.rules.RuleId.{RuleId}
use Rattle.regex_ast.specs.Positions.{Table}
use Rattle.edit_log.specs.declared.symbol_table.Row.{Row}
use Rattle.edit_log.specs.Lists.{occurrences, HasLiteral}
use Rattle.edit_log.specs.Replicas.{room_of}

-- the rules under each left side
abbrev pub lefts_in : List Row → List (Vec RuleId Global)
lefts_in rows = map (λ row. row.rules) rows

-- how often each symbol is used
abbrev pub uses_in : List Row → List ℕ
uses_in rows = map (λ row. row.uses) rows

-- the positions of each literal
abbrev pub literals_in : List Row → List (Option Table)
literals_in rows = map (λ row. row.positions) rows

-- for how many more rules each left side has memory
abbrev pub rooms_in : List Row → List ℕ
rooms_in rows = map room_of (lefts_in rows)

-- the symbol is a literal that so many rules use
abbrev pub IsUsed : List Row → SymbolId → ℕ → Type 0
IsUsed rows symbol count = HasLiteral (literals_in rows) symbol.0 × (slice_get (uses_in rows) symbol.0 ≡ Some count)
