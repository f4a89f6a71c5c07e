use Rattle.gss.proofs.TrailSteps.{calls_left}
use Rattle.rekers.specs.Answers.{kinds_of}
use Rattle.rekers.proofs.WalkedTrails.{IsUnderWay}
use Rattle.rekers.proofs.parser.Parser.walk_down.Given as goal

abbrev pub invariant-trails : goal.invariant-trails
invariant-trails g l = IsUnderWay (kinds_of l.tokens) l.fn.self l.self (g.G.Graph.means l.fn.graph) (g.G.Graph.means l.graph) l.fn.steps l.steps l.fn.walk
    l.is_more

abbrev pub decreases-trails : goal.decreases-trails
decreases-trails g l = calls_left l.self.trails l.is_more
