use Rattle.std.proofs.Common.{ℕ, ◌<◌, get_or}
use Rattle.item_sets.specs.declared.item.Item.{Item}
use Rattle.item_sets.specs.Prefixes.{IsItem}
use Rattle.item_sets_tests.proofs.grammars.are_items.Given as goal

abbrev pub invariant-loop-item : goal.invariant-loop-item
invariant-loop-item l = (place : ℕ) (other : Item) → place < l.item-index → IsItem l.grammar.grammar.rules (get_or l.kernel place other)
