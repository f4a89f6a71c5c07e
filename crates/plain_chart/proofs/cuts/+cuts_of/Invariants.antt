use Rattle.std.proofs.Common.{length}
use Rattle.plain_chart.proofs.CutLists.{AreFront}
use Rattle.plain_chart.proofs.cuts.+cuts_of.Given as goal

abbrev pub decreases-cuts_of : goal.decreases-cuts_of
decreases-cuts_of l = length l.right.now

abbrev pub invariant-loop-middle : goal.invariant-loop-middle
invariant-loop-middle l = AreFront l.tokens l.known l.first l.rest l.from l.to l.middle l.found.items
