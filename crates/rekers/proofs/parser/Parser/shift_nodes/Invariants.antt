-- What the loop over the nodes keeps.
use Rattle.rekers.specs.Answers.{kinds_of}
use Rattle.rekers.proofs.ShiftedNodes.{HasShifted}
use Rattle.rekers.proofs.parser.Parser.shift_nodes.Given as goal

-- the nodes before this one are shifted
abbrev pub invariant-loop-node : goal.invariant-loop-node
invariant-loop-node g l = HasShifted (kinds_of l.tokens) l.fn.self l.self (g.G.Graph.means l.fn.graph) (g.G.Graph.means l.graph) l.fn.steps l.steps
    l.fn.first l.node l.fn.kind
