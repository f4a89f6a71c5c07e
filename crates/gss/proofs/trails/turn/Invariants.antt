use Rattle.std.proofs.Common.{length}
use Rattle.gss.proofs.TrailSteps.{IsAscending}
use Rattle.gss.proofs.trails.turn.Given as goal

abbrev pub invariant-up : goal.invariant-up
invariant-up l = IsAscending l.graph.links l.walk l.fn.part.links.items l.part.links.items l.part.met

abbrev pub decreases-up : goal.decreases-up
decreases-up l = length l.part.links.items
