-- The reductions of a node through a link, in the order of its state.
use Rattle.std.proofs.Common.{◌<◌, length, refl, arith}
use Rattle.std.proofs.lemmas.Option.{slice_get-get_or}
use Rattle.std.proofs.lemmas.Result.{err_from_is_err_and}
use Rattle.rekers.specs.Answers.{kinds_of}
use Rattle.rekers.proofs.Unless.{unless_on}
use Rattle.rekers.proofs.NodeReductions.{state_within, under_way_none, state_still, more_reductions, next_top, next_link, next_is_fresh}
use Rattle.rekers.proofs.NodeReductions.{under_way_more, under_way_all, way_on}
use Rattle.rekers.proofs.parser.Parser.reduce_node.Goals as goal

pub reductions-count-requires : goal.reductions-count-requires
reductions-count-requires g c = state_within (kinds_of c.args.tokens.now) c.args.self.now (g.G.Graph.means c.args.graph.now) c.args.steps.now c.args.node
    c.args.link c.place-state.result c.requires.sound c.place-state.ensures

pub loop-k-init : goal.loop-k-init
loop-k-init g c = under_way_none (kinds_of c.args.tokens.now) c.args.self.now (g.G.Graph.means c.args.graph.now) c.args.steps.now c.args.node c.args.link
    c.place-state.result c.requires.sound c.place-state.ensures c.reductions-count.result.now (length c.reductions-count.result.now) c.requires.of_level
    c.requires.within c.reductions-count.ensures refl

pub reductions-requires : goal.reductions-requires
reductions-requires g c = state_still
    (kinds_of c.args.tokens.now) c.args.self.now c.loop-k.self (g.G.Graph.means c.args.graph.now) (g.G.Graph.means c.loop-k.graph)
    c.args.steps.now c.loop-k.steps c.args.node c.args.link c.place-state.result.state (length c.reductions-count.result.now)
    c.loop-k.k c.requires.sound c.requires.link c.loop-k.invariant

pub bounds-reductions-k : goal.bounds-reductions-k
bounds-reductions-k g c = more_reductions
    (kinds_of c.args.tokens.now) c.args.self.now c.loop-k.self (g.G.Graph.means c.args.graph.now) (g.G.Graph.means c.loop-k.graph)
    c.args.steps.now c.loop-k.steps c.args.node c.args.link c.place-state.result.state (length c.reductions-count.result.now)
    c.loop-k.k c.requires.sound c.requires.link c.loop-k.invariant
    c.reductions.result.now c.reductions.ensures c.loop-k-test.true

pub walk_down-requires-clause-top : goal.walk_down-requires-clause-top
walk_down-requires-clause-top g c =
    let inside : c.loop-k.k < length c.reductions.result.now = more_reductions
    (kinds_of c.args.tokens.now) c.args.self.now c.loop-k.self (g.G.Graph.means c.args.graph.now) (g.G.Graph.means c.loop-k.graph)
    c.args.steps.now c.loop-k.steps c.args.node c.args.link c.place-state.result.state (length c.reductions-count.result.now)
    c.loop-k.k c.requires.sound c.requires.link c.loop-k.invariant
    c.reductions.result.now c.reductions.ensures c.loop-k-test.true in
    next_top
    (kinds_of c.args.tokens.now) c.args.self.now c.loop-k.self (g.G.Graph.means c.args.graph.now) (g.G.Graph.means c.loop-k.graph)
    c.args.steps.now c.loop-k.steps c.args.node c.args.link c.place-state.result.state (length c.reductions-count.result.now)
    c.loop-k.k c.requires.sound c.requires.link c.loop-k.invariant
    c.reductions.result.now c.reductions.ensures
    _ (slice_get-get_or c.reductions.result.now c.loop-k.k _ inside)

pub walk_down-requires-clause-link : goal.walk_down-requires-clause-link
walk_down-requires-clause-link g c = next_link
    (kinds_of c.args.tokens.now) c.args.self.now c.loop-k.self (g.G.Graph.means c.args.graph.now) (g.G.Graph.means c.loop-k.graph)
    c.args.steps.now c.loop-k.steps c.args.node c.args.link c.place-state.result.state (length c.reductions-count.result.now)
    c.loop-k.k c.requires.sound c.requires.link c.loop-k.invariant

pub walk_down-requires-clause-fresh : goal.walk_down-requires-clause-fresh
walk_down-requires-clause-fresh g c =
    let inside : c.loop-k.k < length c.reductions.result.now = more_reductions
    (kinds_of c.args.tokens.now) c.args.self.now c.loop-k.self (g.G.Graph.means c.args.graph.now) (g.G.Graph.means c.loop-k.graph)
    c.args.steps.now c.loop-k.steps c.args.node c.args.link c.place-state.result.state (length c.reductions-count.result.now)
    c.loop-k.k c.requires.sound c.requires.link c.loop-k.invariant
    c.reductions.result.now c.reductions.ensures c.loop-k-test.true in
    next_is_fresh
    (kinds_of c.args.tokens.now) c.args.self.now c.loop-k.self (g.G.Graph.means c.args.graph.now) (g.G.Graph.means c.loop-k.graph)
    c.args.steps.now c.loop-k.steps c.args.node c.args.link c.place-state.result.state (length c.reductions-count.result.now)
    c.loop-k.k c.requires.sound c.requires.link c.loop-k.invariant
    c.reductions.result.now c.reductions.ensures
    _ (slice_get-get_or c.reductions.result.now c.loop-k.k _ inside) c.requires.fresh

pub returns-in_err-walk_down-clause-step : goal.returns-in_err-walk_down-clause-step
returns-in_err-walk_down-clause-step g c = unless_on c.in_err-walk_down.field-0.0 c.from_residual.result
    (err_from_is_err_and c.from_residual.result c.from_residual.ensures.1) (λ step. way_on
    (kinds_of c.args.tokens.now) c.args.self.now c.loop-k.self (g.G.Graph.means c.args.graph.now) (g.G.Graph.means c.loop-k.graph)
    c.args.steps.now c.loop-k.steps c.args.node c.args.link c.place-state.result.state (length c.reductions-count.result.now)
    c.loop-k.k c.requires.sound c.requires.link c.loop-k.invariant
    c.walk_down.new.self (g.G.Graph.means c.walk_down.new.graph) c.walk_down.new.steps step) c.in_err-walk_down.ensures.step

pub loop-k-preserved : goal.loop-k-preserved
loop-k-preserved g c =
    let inside : c.loop-k.k < length c.reductions.result.now = more_reductions
    (kinds_of c.args.tokens.now) c.args.self.now c.loop-k.self (g.G.Graph.means c.args.graph.now) (g.G.Graph.means c.loop-k.graph)
    c.args.steps.now c.loop-k.steps c.args.node c.args.link c.place-state.result.state (length c.reductions-count.result.now)
    c.loop-k.k c.requires.sound c.requires.link c.loop-k.invariant
    c.reductions.result.now c.reductions.ensures c.loop-k-test.true in
    under_way_more
    (kinds_of c.args.tokens.now) c.args.self.now c.loop-k.self (g.G.Graph.means c.args.graph.now) (g.G.Graph.means c.loop-k.graph)
    c.args.steps.now c.loop-k.steps c.args.node c.args.link c.place-state.result.state (length c.reductions-count.result.now)
    c.loop-k.k c.requires.sound c.requires.link c.loop-k.invariant
    c.reductions.result.now c.reductions.ensures
    _ (slice_get-get_or c.reductions.result.now c.loop-k.k _ inside) c.walk_down.new.self
    (g.G.Graph.means c.walk_down.new.graph) c.walk_down.new.steps c.in_ok-walk_down.ensures.step c.in_ok-walk_down.ensures.walked
    c.in_ok-walk_down.ensures.within c.in_ok-walk_down.ensures.stands c.in_ok-walk_down.ensures.never_back

pub returns-clause-walked : goal.returns-clause-walked
returns-clause-walked g c = under_way_all
    (kinds_of c.args.tokens.now) c.args.self.now c.loop-k.self (g.G.Graph.means c.args.graph.now) (g.G.Graph.means c.loop-k.graph)
    c.args.steps.now c.loop-k.steps c.args.node c.args.link c.place-state.result.state (length c.reductions-count.result.now)
    c.loop-k.k c.requires.sound c.requires.link c.loop-k.invariant
    (omega (arith, c.loop-k-test.false, c.loop-k.auto.k-end))
