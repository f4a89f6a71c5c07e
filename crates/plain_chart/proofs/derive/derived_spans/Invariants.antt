use Rattle.std.proofs.Common.{◌+◌, ◌-◌, length}
use Rattle.plain_chart.specs.Known.{AreFine}
use Rattle.plain_chart.proofs.Universe.{universe}
use Rattle.plain_chart.proofs.derive.derived_spans.Given as goal

abbrev pub invariant-loop-known : goal.invariant-loop-known
invariant-loop-known l = AreFine l.rules l.tokens l.known

-- the spans that are not known
abbrev pub decreases-loop-known : goal.decreases-loop-known
decreases-loop-known l = length (universe l.rules (length l.tokens + 1)) - length l.known
