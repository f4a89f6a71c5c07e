use Rattle.rekers.specs.Answers.{kinds_of}
use Rattle.rekers.proofs.NodeReductions.{IsNodeUnderWay}
use Rattle.rekers.proofs.parser.Parser.reduce_node.Given as goal

-- the reductions before this one are made
abbrev pub invariant-loop-k : goal.invariant-loop-k
invariant-loop-k g l = IsNodeUnderWay (kinds_of l.tokens) l.fn.self l.self (g.G.Graph.means l.fn.graph) (g.G.Graph.means l.graph) l.fn.steps l.steps
    l.fn.node l.fn.link l.state l.count l.k
