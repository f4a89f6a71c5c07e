-- The reductions through a link: from its upper end alone where the level is flat, and else from each node of the level.
use Rattle.std.proofs.Common.{◌≤◌, refl, arith}
use Rattle.std.proofs.lemmas.Result.{err_from_is_err_and}
use Rattle.rekers.specs.Answers.{kinds_of}
use Rattle.rekers.specs.Found.{found}
use Rattle.rekers.proofs.Unless.{unless_on}
use Rattle.rekers.proofs.LinkReductions.{none_through, link_way_none, link_still, node_still, still_fresh, link_way_on, link_way_more, link_way_all}
use Rattle.rekers.proofs.LinkReductions.{upper_within, upper_worked}
use Rattle.rekers.proofs.parser.Parser.reduce_link.Goals as goal

pub reduce_node-requires-clause-node : goal.reduce_node-requires-clause-node
reduce_node-requires-clause-node g c = upper_within (kinds_of c.args.tokens.now) c.args.self.now (g.G.Graph.means c.args.graph.now) c.args.queue.link
    c.args.queue.node c.edge-node.result c.requires.sound c.requires.link c.edge-node.ensures

pub reduce_node-requires-clause-fresh : goal.reduce_node-requires-clause-fresh
reduce_node-requires-clause-fresh g c = none_through (g.G.Graph.means c.args.graph.now).grammar.rules (found c.args.self.now) c.args.queue.link
    c.args.queue.node c.edge-node.result.upper c.requires.worked

pub returns-then-self-clause-worked : goal.returns-then-self-clause-worked
returns-then-self-clause-worked g c = upper_worked (kinds_of c.args.tokens.now) c.args.self.now (g.G.Graph.means c.args.graph.now) c.args.queue.link
    c.args.queue.node c.edge-node.result c.requires.sound c.requires.link c.edge-node.ensures
    c.reduce_node.new.self (g.G.Graph.means c.reduce_node.new.graph) c.args.steps.now c.reduce_node.new.steps c.in_ok-reduce_node.ensures.step
    c.in_ok-reduce_node.ensures.stands c.if-self.true c.requires.nodes c.requires.worked c.in_ok-reduce_node.ensures.walked

pub loop-node-init : goal.loop-node-init
loop-node-init g c = link_way_none (kinds_of c.args.tokens.now) c.args.self.now (g.G.Graph.means c.args.graph.now) c.args.steps.now
    c.args.self.now.level.first_node c.args.queue.link c.requires.sound c.requires.within

pub reduce_node-requires-in-loop-node-clause-node : goal.reduce_node-requires-in-loop-node-clause-node
reduce_node-requires-in-loop-node-clause-node g c = node_still (kinds_of c.args.tokens.now) c.args.self.now c.loop-node.self (g.G.Graph.means c.args.graph.now)
    (g.G.Graph.means c.loop-node.graph) c.args.steps.now c.loop-node.steps c.args.self.now.level.first_node c.loop-node.node c.args.queue.link
    c.args.queue.node c.requires.sound c.requires.link c.loop-node.invariant
    c.requires.nodes c.loop-node-test.true

pub reduce_node-requires-in-loop-node-clause-link : goal.reduce_node-requires-in-loop-node-clause-link
reduce_node-requires-in-loop-node-clause-link g c = link_still (kinds_of c.args.tokens.now) c.args.self.now c.loop-node.self (g.G.Graph.means c.args.graph.now)
    (g.G.Graph.means c.loop-node.graph) c.args.steps.now c.loop-node.steps c.args.self.now.level.first_node c.loop-node.node c.args.queue.link
    c.args.queue.node c.requires.sound c.requires.link c.loop-node.invariant

pub reduce_node-requires-in-loop-node-clause-fresh : goal.reduce_node-requires-in-loop-node-clause-fresh
reduce_node-requires-in-loop-node-clause-fresh g c = still_fresh (kinds_of c.args.tokens.now) c.args.self.now c.loop-node.self
    (g.G.Graph.means c.args.graph.now)
    (g.G.Graph.means c.loop-node.graph) c.args.steps.now c.loop-node.steps c.args.self.now.level.first_node c.loop-node.node c.args.queue.link
    c.args.queue.node c.requires.sound c.requires.link c.loop-node.invariant
    c.requires.worked

pub returns-in_err-reduce_node-2-clause-step : goal.returns-in_err-reduce_node-2-clause-step
returns-in_err-reduce_node-2-clause-step g c = unless_on c.in_err-reduce_node-2.field-0.0 c.from_residual-in_err-reduce_node-2.result
    (err_from_is_err_and c.from_residual-in_err-reduce_node-2.result c.from_residual-in_err-reduce_node-2.ensures.1)
    (λ step. link_way_on (kinds_of c.args.tokens.now) c.args.self.now c.loop-node.self (g.G.Graph.means c.args.graph.now)
    (g.G.Graph.means c.loop-node.graph) c.args.steps.now c.loop-node.steps c.args.self.now.level.first_node c.loop-node.node c.args.queue.link
    c.args.queue.node c.requires.sound c.requires.link c.loop-node.invariant
    c.reduce_node-in-loop-node.new.self (g.G.Graph.means c.reduce_node-in-loop-node.new.graph) c.reduce_node-in-loop-node.new.steps step)
    c.in_err-reduce_node-2.ensures.step

pub loop-node-preserved : goal.loop-node-preserved
loop-node-preserved g c = link_way_more (kinds_of c.args.tokens.now) c.args.self.now c.loop-node.self (g.G.Graph.means c.args.graph.now)
    (g.G.Graph.means c.loop-node.graph) c.args.steps.now c.loop-node.steps c.args.self.now.level.first_node c.loop-node.node c.args.queue.link
    c.args.queue.node c.requires.sound c.requires.link c.loop-node.invariant
    c.reduce_node-in-loop-node.new.self (g.G.Graph.means c.reduce_node-in-loop-node.new.graph) c.reduce_node-in-loop-node.new.steps
    c.in_ok-reduce_node-2.ensures.step c.in_ok-reduce_node-2.ensures.walked c.in_ok-reduce_node-2.ensures.within c.in_ok-reduce_node-2.ensures.stands
    c.in_ok-reduce_node-2.ensures.never_back

pub returns-clause-worked : goal.returns-clause-worked
returns-clause-worked g c =
    let begins : c.args.self.now.level.first_node ≤ c.args.queue.node = omega (arith, c.requires.sound.level.nodes_within, c.requires.nodes) in
    link_way_all (kinds_of c.args.tokens.now) c.args.self.now c.loop-node.self (g.G.Graph.means c.args.graph.now)
    (g.G.Graph.means c.loop-node.graph) c.args.steps.now c.loop-node.steps c.args.self.now.level.first_node c.loop-node.node c.args.queue.link
    c.args.queue.node c.requires.sound c.requires.link c.loop-node.invariant
    refl (omega (arith, c.loop-node-test.false, c.loop-node.auto.node-end begins)) c.requires.nodes c.requires.worked
