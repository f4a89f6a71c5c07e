use Rattle.std.proofs.Common.{length}
use Rattle.plain_chart.proofs.derive.+sources.Given as goal

abbrev pub decreases-sources : goal.decreases-sources
decreases-sources l = length l.right.now
