use Rattle.std.proofs.Common.{◌≡◌, ℕ, ◌<◌, ◌≤◌, length, false, slice_get, Some}
use Rattle.forest.specs.declared.rules.Rule.{Rule}
use Rattle.plain_chart.specs.Known.{IsSettled, ExtendsKnown}
use Rattle.plain_chart.proofs.derive.round.Given as goal

abbrev pub invariant-loop-at : goal.invariant-loop-at
invariant-loop-at l = record {
  grows : ExtendsKnown l.rules l.tokens l.fn.known l.known l.changed;
  settled : l.changed ≡ false → (r : Rule) (k i j : ℕ) → slice_get l.rules k ≡ Some r → k < l.at → j ≤ length l.tokens → IsSettled l.tokens l.known r i j;
}
