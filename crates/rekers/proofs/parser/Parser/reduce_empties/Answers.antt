use Rattle.std.proofs.Common.{◌<◌, ◌≤◌, length, ap, arith}
use Rattle.std.proofs.lemmas.Result.{err_from_is_err_and}
use Rattle.gss.specs.Trails.{Standing}
use Rattle.rekers.specs.Answers.{kinds_of}
use Rattle.rekers.proofs.Stepping.{step_on}
use Rattle.rekers.proofs.Unless.{unless_on}
use Rattle.rekers.proofs.EmptiedNodes.{none_emptied, state_inside, still_inside, none_behind, read_at, next_empty, emptied_more, emptied_all}
use Rattle.rekers.proofs.parser.Parser.reduce_empties.Goals as goal

pub loop-k-init : goal.loop-k-init
loop-k-init g c =
    none_emptied (kinds_of c.args.tokens.now) c.args.self.now c.begin.new.self (g.G.Graph.means c.args.graph.now) c.args.steps.now c.args.queue.node
    c.place-state.result c.empties-k-end.result.now c.requires.sound c.requires.within (ap (λ (s : Standing). s.trail) c.begin.ensures.is)
    c.requires.of_level c.place-state.ensures
    c.empties-k-end.ensures

pub empties-requires : goal.empties-requires
empties-requires g c =
    state_inside (kinds_of c.args.tokens.now) c.args.self.now c.loop-k.self (g.G.Graph.means c.args.graph.now) (g.G.Graph.means c.loop-k.graph) c.args.steps.now
    c.loop-k.steps c.args.queue.node c.loop-k.k c.requires.sound c.loop-k.invariant c.place-state.result c.place-state.ensures

pub bounds-empties-k : goal.bounds-empties-k
bounds-empties-k g c =
    still_inside (kinds_of c.args.tokens.now) c.args.self.now c.loop-k.self (g.G.Graph.means c.args.graph.now) (g.G.Graph.means c.loop-k.graph) c.args.steps.now
    c.loop-k.steps c.args.queue.node c.loop-k.k c.requires.sound c.loop-k.invariant c.place-state.result c.empties-k-end.result.now c.empties.result.now
    c.place-state.ensures c.empties-k-end.ensures c.empties.ensures c.loop-k-test.true

pub reduce-requires-clause-reduces : goal.reduce-requires-clause-reduces
reduce-requires-clause-reduces g c =
    let inside : c.loop-k.k < length c.empties.result.now =
    still_inside (kinds_of c.args.tokens.now) c.args.self.now c.loop-k.self (g.G.Graph.means c.args.graph.now) (g.G.Graph.means c.loop-k.graph) c.args.steps.now
    c.loop-k.steps c.args.queue.node c.loop-k.k c.requires.sound c.loop-k.invariant c.place-state.result c.empties-k-end.result.now c.empties.result.now
    c.place-state.ensures c.empties-k-end.ensures c.empties.ensures c.loop-k-test.true in
    next_empty (kinds_of c.args.tokens.now) c.args.self.now c.loop-k.self (g.G.Graph.means c.args.graph.now) (g.G.Graph.means c.loop-k.graph) c.args.steps.now
    c.loop-k.steps c.args.queue.node c.loop-k.k c.requires.sound c.loop-k.invariant c.args.queue.link c.requires.worked _
    (read_at (kinds_of c.args.tokens.now) c.args.self.now c.loop-k.self (g.G.Graph.means c.args.graph.now) (g.G.Graph.means c.loop-k.graph) c.args.steps.now
    c.loop-k.steps c.args.queue.node c.loop-k.k c.requires.sound c.loop-k.invariant c.place-state.result c.empties.result.now c.place-state.ensures
    c.empties.ensures inside _)

pub returns-in_err-reduce-clause-step : goal.returns-in_err-reduce-clause-step
returns-in_err-reduce-clause-step g c =
    unless_on c.in_err-reduce.field-0.0 c.from_residual.result (err_from_is_err_and c.from_residual.result c.from_residual.ensures.1)
    (λ step. step_on (kinds_of c.args.tokens.now) c.args.self.now c.loop-k.self c.reduce.new.self (g.G.Graph.means c.args.graph.now)
    (g.G.Graph.means c.loop-k.graph) (g.G.Graph.means c.reduce.new.graph) c.args.steps.now c.loop-k.steps c.reduce.new.steps c.loop-k.invariant.step step)
    c.in_err-reduce.ensures.step

pub loop-k-preserved : goal.loop-k-preserved
loop-k-preserved g c =
    let inside : c.loop-k.k < length c.empties.result.now =
    still_inside (kinds_of c.args.tokens.now) c.args.self.now c.loop-k.self (g.G.Graph.means c.args.graph.now) (g.G.Graph.means c.loop-k.graph) c.args.steps.now
    c.loop-k.steps c.args.queue.node c.loop-k.k c.requires.sound c.loop-k.invariant c.place-state.result c.empties-k-end.result.now c.empties.result.now
    c.place-state.ensures c.empties-k-end.ensures c.empties.ensures c.loop-k-test.true in
    emptied_more (kinds_of c.args.tokens.now) c.args.self.now c.loop-k.self (g.G.Graph.means c.args.graph.now) (g.G.Graph.means c.loop-k.graph) c.args.steps.now
    c.loop-k.steps c.args.queue.node c.loop-k.k c.requires.sound c.loop-k.invariant _
    (read_at (kinds_of c.args.tokens.now) c.args.self.now c.loop-k.self (g.G.Graph.means c.args.graph.now) (g.G.Graph.means c.loop-k.graph) c.args.steps.now
    c.loop-k.steps c.args.queue.node c.loop-k.k c.requires.sound c.loop-k.invariant c.place-state.result c.empties.result.now c.place-state.ensures
    c.empties.ensures inside _)
    c.reduce.new.self (g.G.Graph.means c.reduce.new.graph) c.reduce.new.steps c.in_ok-reduce.ensures.step c.in_ok-reduce.ensures.reduced
    c.in_ok-reduce.ensures.within
    c.in_ok-reduce.ensures.trail c.in_ok-reduce.ensures.stands c.in_ok-reduce.ensures.never_back

pub returns-clause-worked : goal.returns-clause-worked
returns-clause-worked g c =
    let most : length c.empties-k-end.result.now ≤ c.loop-k.k = omega (arith, c.loop-k-test.false) in
    emptied_all (kinds_of c.args.tokens.now) c.args.self.now c.loop-k.self (g.G.Graph.means c.args.graph.now) (g.G.Graph.means c.loop-k.graph) c.args.steps.now
    c.loop-k.steps c.args.queue.node c.loop-k.k c.requires.sound c.loop-k.invariant c.args.queue.link c.requires.worked c.requires.links c.requires.node
    (none_behind (kinds_of c.args.tokens.now) c.args.self.now c.loop-k.self (g.G.Graph.means c.args.graph.now) (g.G.Graph.means c.loop-k.graph) c.args.steps.now
    c.loop-k.steps c.args.queue.node c.loop-k.k c.requires.sound c.loop-k.invariant c.place-state.result c.empties-k-end.result.now c.place-state.ensures
    c.empties-k-end.ensures most)
