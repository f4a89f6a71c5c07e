use Rattle.std.proofs.Common.{◌≡◌, ℕ, ◌<◌, false, slice_get, Some}
use Rattle.forest.specs.declared.rules.Rule.{Rule}
use Rattle.plain_chart.specs.Known.{IsSettled, ExtendsKnown}
use Rattle.plain_chart.proofs.derive.settle_rule.Given as goal

-- what was passed is settled if nothing was added
abbrev pub invariant-loop-to : goal.invariant-loop-to
invariant-loop-to l = record {
  grows : ExtendsKnown l.rules l.tokens l.fn.known l.known l.changed;
  settled : l.changed ≡ false → (r : Rule) (i j : ℕ) → slice_get l.rules l.at ≡ Some r → j < l.to → IsSettled l.tokens l.known r i j;
}
