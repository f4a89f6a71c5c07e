use Rattle.std.proofs.Common.{◌≡◌, ◌+◌, ◌-◌, ℕ, length}
use Rattle.item_sets.specs.Walks.{early_rules}
use Rattle.item_sets.proofs.Closures.{IsOnTheWay, universe}
use Rattle.item_sets.proofs.closure.closure_of.Given as goal

abbrev pub invariant-loop-done : goal.invariant-loop-done
invariant-loop-done g l = record {
  early : l.early.items ≡ early_rules l.kernel;
  taken : ℕ;
  way : IsOnTheWay l.grammar.grammar.rules l.kernel l.walk.symbols l.walk.moves.items l.walk.reductions.items l.done taken;
  steps : l.steps ≡ l.fn.steps + taken;
}

abbrev pub decreases-loop-done : goal.decreases-loop-done
decreases-loop-done g l = length (universe l.grammar.grammar.rules) - l.done
