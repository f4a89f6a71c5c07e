-- What is kept of states, as plain lists.
use Rattle.std.specs.Prelude.{ℕ, List, []}
use Rattle.forest.specs.declared.symbols.SymbolId.{SymbolId}
use Rattle.item_sets.specs.declared.item.Item.{Item}
use Rattle.parser_states.specs.declared.rows.Part.{Part}
use Rattle.parser_states.specs.declared.rows.Row.{Row}
use Rattle.parser_states.specs.declared.reduction.Reduction.{Reduction}
use Rattle.parser_states.specs.declared.moves.MoveLists.{MoveLists}
use Rattle.parser_states.specs.declared.table.Table.{Table}

-- of the moves of all states: their symbols, which of the items stand behind each, one more than the numbers of the states behind them or 0,
-- and the items
pub record KnownMoves : Type 0 where
  pub symbols : List SymbolId
  pub behind : List Part
  pub targets : List ℕ
  pub items : List Item

-- the kernels of the states by number, a row for each, and the moves and the reductions of all
pub record Known : Type 0 where
  pub kernels : List (List Item)
  pub rows : List Row
  pub moves : KnownMoves
  pub reductions : List Reduction

abbrev pub known_moves : MoveLists → KnownMoves
known_moves moves = record { symbols = moves.symbols.items; behind = moves.behind.items; targets = moves.targets.items; items = moves.items.items }

abbrev pub known : Table → Known
known table = record { kernels = table.keys.keys; rows = table.rows.items; moves = known_moves table.moves; reductions = table.reductions.items }

abbrev pub no_moves : KnownMoves
no_moves = record { symbols = []; behind = []; targets = []; items = [] }

abbrev pub no_states : Known
no_states = record { kernels = []; rows = []; moves = no_moves; reductions = [] }
