use Rattle.std.proofs.Common.{◌≡◌, ◌+◌, ◌++◌, List, take}
use Rattle.item_sets.specs.declared.item.Item.{Item}
use Rattle.item_sets.specs.Walks.{IsWalk}
use Rattle.item_sets.proofs.closure.visit_kernel.Given as goal

abbrev pub invariant-loop-item : goal.invariant-loop-item
invariant-loop-item g l = record {
  walk : (items : List Item) → IsWalk l.grammar.grammar.rules items l.fn.walk.symbols l.fn.walk.moves.items l.fn.walk.reductions.items
      → IsWalk l.grammar.grammar.rules (items ++ take l.item-index l.kernel) l.walk.symbols l.walk.moves.items l.walk.reductions.items;
  steps : l.steps ≡ l.fn.steps + l.item-index;
}
