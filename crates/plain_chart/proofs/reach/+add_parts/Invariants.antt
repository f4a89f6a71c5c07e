use Rattle.std.proofs.Common.{length}
use Rattle.plain_chart.specs.Parts.{Adds}
use Rattle.plain_chart.proofs.PartLists.{IsFrontSpan}
use Rattle.plain_chart.proofs.reach.+add_parts.Given as goal

abbrev pub decreases-add_parts : goal.decreases-add_parts
decreases-add_parts l = length l.right.now

abbrev pub invariant-loop-middle : goal.invariant-loop-middle
invariant-loop-middle l = Adds l.known (IsFrontSpan l.tokens l.known l.first l.rest l.from l.to l.middle) l.fn.reached l.reached
