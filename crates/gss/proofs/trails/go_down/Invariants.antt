use Rattle.std.proofs.Common.{length, ◌-◌}
use Rattle.gss.proofs.TrailSteps.{IsDescending}
use Rattle.gss.proofs.trails.go_down.Given as goal

abbrev pub invariant-down : goal.invariant-down
invariant-down l = IsDescending l.graph.links l.walk l.fn.part.links.items l.part.links.items l.part.met

abbrev pub decreases-down : goal.decreases-down
decreases-down l = l.walk.length - length l.part.links.items
