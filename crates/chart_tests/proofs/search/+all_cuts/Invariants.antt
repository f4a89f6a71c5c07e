use Rattle.std.proofs.Common.{length}
use Rattle.chart_tests.proofs.search.+all_cuts.Given as goal

abbrev pub decreases-all_cuts : goal.decreases-all_cuts
decreases-all_cuts l = length l.parts.now
