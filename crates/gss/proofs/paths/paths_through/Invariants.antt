use Rattle.gss.proofs.TrailSteps.{calls_left}
use Rattle.gss.proofs.PathTrails.{ArePathsSoFar}
use Rattle.gss.proofs.paths.paths_through.Given as goal

abbrev pub invariant-trails : goal.invariant-trails
invariant-trails l = ArePathsSoFar l.graph.links l.node l.count l.fn.through l.trails l.is_more l.found.items

abbrev pub decreases-trails : goal.decreases-trails
decreases-trails l = calls_left l.trails l.is_more
