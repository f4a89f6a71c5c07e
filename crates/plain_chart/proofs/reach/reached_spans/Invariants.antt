use Rattle.std.proofs.Common.{◌+◌, ◌-◌, length}
use Rattle.plain_chart.proofs.PartLists.{AreReaching}
use Rattle.plain_chart.proofs.reach.reached_spans.Given as goal

abbrev pub invariant-loop-at : goal.invariant-loop-at
invariant-loop-at l = AreReaching l.rules l.tokens l.known l.reached l.at

-- the spans that may still come
abbrev pub decreases-loop-at : goal.decreases-loop-at
decreases-loop-at l = length l.known + 1 - l.at
