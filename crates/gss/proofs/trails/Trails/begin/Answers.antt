use Rattle.std.proofs.Common.{List, ℕ, sym, subst}
use Rattle.gss.specs.Trails.{IsPartOfTrail}
use Rattle.gss.proofs.TrailSteps.{part_none}
use Rattle.gss.proofs.trails.Trails.begin.Goals as goal

pub returns-clause-on : goal.returns-clause-on
returns-clause-on c links = subst (λ (ls : List ℕ). IsPartOfTrail links c.args.walk ls) (sym c.clear.ensures.links) (part_none links c.args.walk)
