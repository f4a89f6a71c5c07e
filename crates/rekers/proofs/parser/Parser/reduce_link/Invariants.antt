use Rattle.rekers.specs.Answers.{kinds_of}
use Rattle.rekers.proofs.LinkReductions.{IsLinkUnderWay}
use Rattle.rekers.proofs.parser.Parser.reduce_link.Given as goal

-- the reductions from the nodes of the level before this one are made
abbrev pub invariant-loop-node : goal.invariant-loop-node
invariant-loop-node g l = IsLinkUnderWay (kinds_of l.tokens) l.fn.self l.self (g.G.Graph.means l.fn.graph) (g.G.Graph.means l.graph) l.fn.steps l.steps
    l.fn.self.level.first_node l.node l.fn.queue.link
