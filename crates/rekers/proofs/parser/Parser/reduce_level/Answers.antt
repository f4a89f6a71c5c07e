use Rattle.std.proofs.Common.{refl}
use Rattle.std.proofs.lemmas.Result.{err_from_is_err_and}
use Rattle.rekers.specs.declared.queue.Queue.{Queue}
use Rattle.rekers.specs.Answers.{kinds_of}
use Rattle.rekers.proofs.Stepping.{step_on}
use Rattle.rekers.proofs.QueuedLevels.{none_queued, queued_more, queue_done, unless_passed}
use Rattle.rekers.proofs.parser.Parser.reduce_level.Goals as goal

pub queue-init : goal.queue-init
queue-init g c = none_queued (kinds_of c.args.tokens.now) c.args.self.now (g.G.Graph.means c.args.graph.now) c.args.steps.now c.requires.sound c.requires.within
    c.requires.worked

pub returns-in_err-queue-clause-step : goal.returns-in_err-queue-clause-step
returns-in_err-queue-clause-step g c =
    unless_passed Queue c.in_err-queue.field-0.0 c.from_residual.result (err_from_is_err_and c.from_residual.result c.from_residual.ensures.1)
    (λ step. step_on (kinds_of c.args.tokens.now) c.args.self.now c.queue.self c.reduce_next.new.self (g.G.Graph.means c.args.graph.now)
    (g.G.Graph.means c.queue.graph) (g.G.Graph.means c.reduce_next.new.graph) c.args.steps.now c.queue.steps c.reduce_next.new.steps
    c.queue.invariant.step step)
    c.in_err-queue.ensures.step

pub queue-preserved : goal.queue-preserved
queue-preserved g c =
    queued_more (kinds_of c.args.tokens.now) c.args.self.now c.queue.self (g.G.Graph.means c.args.graph.now) (g.G.Graph.means c.queue.graph) c.args.steps.now
    c.queue.steps c.queue.queue.node c.queue.queue.link c.queue.invariant c.reduce_next.new.self (g.G.Graph.means c.reduce_next.new.graph)
    c.reduce_next.new.steps c.queue.queue c.in_ok-queue.queue refl refl c.in_ok-queue.ensures.next
    c.in_ok-queue.ensures.step c.in_ok-queue.ensures.worked c.in_ok-queue.ensures.within c.in_ok-queue.ensures.stands c.in_ok-queue.ensures.never_back

pub returns-clause-worked : goal.returns-clause-worked
returns-clause-worked g c =
    queue_done (kinds_of c.args.tokens.now) c.args.self.now c.queue.self (g.G.Graph.means c.args.graph.now) (g.G.Graph.means c.queue.graph) c.args.steps.now
    c.queue.steps c.queue.queue.node c.queue.queue.link c.queue.invariant
    (λ some. let yes = c.is_left.ensures.1 some in let no = c.queue-test.false in cc)
