-- The nodes of the level before are shifted one after the other.
use Rattle.std.proofs.Common.{arith}
use Rattle.std.proofs.lemmas.Result.{err_from_is_err_and}
use Rattle.rekers.specs.Answers.{kinds_of}
use Rattle.rekers.proofs.Unless.{unless_on}
use Rattle.rekers.proofs.ShiftedNodes.{none_shifted, next_shift, next_unlinked, shifted_on, step_before, splits_before, all_shifted, nodes_past}
use Rattle.rekers.proofs.parser.Parser.shift_nodes.Goals as goal

pub loop-node-init : goal.loop-node-init
loop-node-init g c =
    none_shifted (kinds_of c.args.tokens.now) c.args.self.now (g.G.Graph.means c.args.graph.now) c.args.steps.now c.args.first c.args.kind c.requires.sound
    c.requires.within c.requires.links

pub shift_node-requires-clause-node : goal.shift_node-requires-clause-node
shift_node-requires-clause-node g c =
    next_shift (kinds_of c.args.tokens.now) c.args.self.now c.loop-node.self (g.G.Graph.means c.args.graph.now) (g.G.Graph.means c.loop-node.graph)
    c.args.steps.now c.loop-node.steps c.args.first c.loop-node.node c.args.kind c.loop-node.invariant c.loop-node-test.true c.requires.first c.requires.kind

pub shift_node-requires-clause-unlinked : goal.shift_node-requires-clause-unlinked
shift_node-requires-clause-unlinked g c =
    next_unlinked (kinds_of c.args.tokens.now) c.args.self.now c.loop-node.self (g.G.Graph.means c.args.graph.now) (g.G.Graph.means c.loop-node.graph)
    c.args.steps.now c.loop-node.steps c.args.first c.loop-node.node c.args.kind c.loop-node.invariant

pub returns-in_err-shift_node-clause-step : goal.returns-in_err-shift_node-clause-step
returns-in_err-shift_node-clause-step g c =
    unless_on c.in_err-shift_node.field-0.0 c.from_residual.result
    (err_from_is_err_and c.from_residual.result c.from_residual.ensures.1)
    (λ step. step_before (kinds_of c.args.tokens.now) c.args.self.now c.loop-node.self (g.G.Graph.means c.args.graph.now) (g.G.Graph.means c.loop-node.graph)
    c.args.steps.now c.loop-node.steps c.args.first c.loop-node.node c.args.kind c.loop-node.invariant c.shift_node.new.self
    (g.G.Graph.means c.shift_node.new.graph) c.shift_node.new.steps step)
    c.in_err-shift_node.ensures.step

pub returns-in_err-shift_node-clause-splits : goal.returns-in_err-shift_node-clause-splits
returns-in_err-shift_node-clause-splits g c =
    unless_on c.in_err-shift_node.field-0.0 c.from_residual.result
    (err_from_is_err_and c.from_residual.result c.from_residual.ensures.1)
    (λ same. splits_before (kinds_of c.args.tokens.now) c.args.self.now c.loop-node.self (g.G.Graph.means c.args.graph.now) (g.G.Graph.means c.loop-node.graph)
    c.args.steps.now c.loop-node.steps c.args.first c.loop-node.node c.args.kind c.loop-node.invariant c.shift_node.new.self
    (g.G.Graph.means c.shift_node.new.graph) c.shift_node.new.steps same)
    c.in_err-shift_node.ensures.splits

pub loop-node-preserved : goal.loop-node-preserved
loop-node-preserved g c =
    shifted_on (kinds_of c.args.tokens.now) c.args.self.now c.loop-node.self (g.G.Graph.means c.args.graph.now) (g.G.Graph.means c.loop-node.graph)
    c.args.steps.now c.loop-node.steps c.args.first c.loop-node.node c.args.kind c.loop-node.invariant c.shift_node.new.self
    (g.G.Graph.means c.shift_node.new.graph) c.shift_node.new.steps
    (nodes_past (kinds_of c.args.tokens.now) c.args.self.now c.loop-node.self (g.G.Graph.means c.args.graph.now) (g.G.Graph.means c.loop-node.graph)
    c.args.steps.now c.loop-node.steps c.args.first c.loop-node.node c.args.kind c.loop-node.invariant c.loop-node-test.true c.requires.first)
    c.in_ok-shift_node.ensures.step c.in_ok-shift_node.ensures.within c.in_ok-shift_node.ensures.splits c.in_ok-shift_node.ensures.shifted
    c.in_ok-shift_node.ensures.others c.in_ok-shift_node.ensures.stands c.in_ok-shift_node.ensures.never_back

pub returns-clause-shifted : goal.returns-clause-shifted
returns-clause-shifted g c =
    all_shifted (kinds_of c.args.tokens.now) c.args.self.now c.loop-node.self (g.G.Graph.means c.args.graph.now) (g.G.Graph.means c.loop-node.graph)
    c.args.steps.now c.loop-node.steps c.args.first c.loop-node.node c.args.kind c.loop-node.invariant c.args.self.now.level.first_node
    (omega (arith, c.loop-node-test.false))
