use Rattle.rekers.specs.Answers.{kinds_of}
use Rattle.rekers.proofs.QueuedLevels.{IsQueued, queue_left}
use Rattle.rekers.proofs.parser.Parser.reduce_level.Given as goal

-- the queue is worked up to this node and this link
abbrev pub invariant-queue : goal.invariant-queue
invariant-queue g l =
    IsQueued (kinds_of l.tokens) l.fn.self l.self (g.G.Graph.means l.fn.graph) (g.G.Graph.means l.graph) l.fn.steps l.steps
    l.queue.node l.queue.link

abbrev pub decreases-queue : goal.decreases-queue
decreases-queue g l = queue_left l.queue.node l.queue.link
