use Rattle.rekers.specs.Answers.{kinds_of}
use Rattle.rekers.proofs.EmptiedNodes.{HasEmptied}
use Rattle.rekers.proofs.parser.Parser.reduce_empties.Given as goal

-- the empty rules before this one are reduced
abbrev pub invariant-loop-k : goal.invariant-loop-k
invariant-loop-k g l =
    HasEmptied (kinds_of l.tokens) l.fn.self l.self (g.G.Graph.means l.fn.graph) (g.G.Graph.means l.graph) l.fn.steps l.steps l.fn.queue.node l.k
