use Rattle.std.proofs.Common.{◌≡◌, ℕ, ◌<◌, true, false, slice_get, Some, Contains}
use Rattle.plain_chart.specs.Span.{span}
use Rattle.plain_chart.specs.Known.{ExtendsKnown}
use Rattle.plain_chart.proofs.derive.settle.Given as goal

abbrev pub invariant-loop-from : goal.invariant-loop-from
invariant-loop-from l = record {
  grows : ExtendsKnown l.rules l.tokens l.fn.known l.known l.changed;
  settled : l.changed ≡ false → (i : ℕ) → i < l.from → slice_get l.ahead i ≡ Some true → Contains l.known (span l.rule.left i l.to);
}
