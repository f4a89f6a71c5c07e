use Rattle.std.proofs.Common.{◌≡◌, ◌+◌, ◌++◌, List, length, take}
use Rattle.item_sets.specs.declared.item.Item.{Item}
use Rattle.item_sets.specs.Walks.{IsWalk, Extends, added_items}
use Rattle.item_sets.proofs.closure.visit_rules.Given as goal

abbrev pub invariant-loop-number : goal.invariant-loop-number
invariant-loop-number g l = record {
  walk : (items : List Item) → IsWalk l.grammar.grammar.rules items l.fn.walk.symbols l.fn.walk.moves.items l.fn.walk.reductions.items
      → IsWalk l.grammar.grammar.rules
      (items ++ added_items l.early (take l.number-index l.number-items)) l.walk.symbols l.walk.moves.items l.walk.reductions.items;
  extends : Extends l.fn.walk.symbols l.walk.symbols;
  steps : l.steps ≡ l.fn.steps + length (added_items l.early (take l.number-index l.number-items));
}
