use Rattle.gss.proofs.TrailSteps.{IsFinding, left_from}
use Rattle.gss.proofs.trails.find.Given as goal

abbrev pub invariant-turns : goal.invariant-turns
invariant-turns l = IsFinding l.graph.links l.walk l.fn.part.links.items l.part.links.items l.part.met l.is_whole

abbrev pub decreases-turns : goal.decreases-turns
decreases-turns l = left_from l.walk l.part.links.items
