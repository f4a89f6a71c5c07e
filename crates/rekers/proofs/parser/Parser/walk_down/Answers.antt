-- A walk over all of its trails.
use Rattle.std.proofs.Common.{◌<◌, Bool, sym, subst}
use Rattle.gss.proofs.TrailSteps.{calls_left}
use Rattle.std.proofs.lemmas.Result.{err_from_is_err_and}
use Rattle.rekers.specs.Answers.{kinds_of}
use Rattle.rekers.proofs.Unless.{unless_on}
use Rattle.rekers.proofs.WalkedTrails.{IsUnderWay, begun_on, under_way_begun, to_reduce, still_on, under_way_more, under_way_fewer, under_way_all, way_step}
use Rattle.rekers.proofs.parser.Parser.walk_down.Goals as goal

pub next-requires : goal.next-requires
next-requires g c = begun_on c.args.self.now c.begin_walk.new.self c.in_ok-begin_walk.ensures.same (g.G.Graph.means c.args.graph.now).grammar.rules
    (kinds_of c.args.tokens.now) c.requires.sound c.args.walk c.requires.link c.in_ok-begin_walk.ensures.start c.requires.top

pub trails-init : goal.trails-init
trails-init g c = under_way_begun c.args.self.now c.begin_walk.new.self c.in_ok-begin_walk.ensures.same (kinds_of c.args.tokens.now)
    (g.G.Graph.means c.args.graph.now) c.args.steps.now c.args.walk c.next.new.self c.in_ok-is_more.is_more c.requires.sound c.requires.within
    c.requires.link c.in_ok-begin_walk.ensures.start c.in_ok-is_more.ensures.walk c.in_ok-is_more.ensures.begun c.in_ok-is_more.ensures.on
    c.in_ok-is_more.ensures.next c.in_ok-is_more.ensures.end

pub reduce-requires-clause-reduces : goal.reduce-requires-clause-reduces
reduce-requires-clause-reduces g c =
    let way = subst (λ (b : Bool). IsUnderWay (kinds_of c.args.tokens.now) c.args.self.now c.trails.self (g.G.Graph.means c.args.graph.now)
    (g.G.Graph.means c.trails.graph) c.args.steps.now c.trails.steps c.args.walk b) c.trails-test.true c.trails.invariant in
    to_reduce (kinds_of c.args.tokens.now) c.args.self.now c.trails.self (g.G.Graph.means c.args.graph.now) (g.G.Graph.means c.trails.graph)
    c.args.steps.now c.trails.steps c.args.walk c.requires.sound c.requires.top c.requires.link c.requires.fresh way
    c.end-lower.result c.end-lower.ensures

pub returns-in_err-reduce-clause-step : goal.returns-in_err-reduce-clause-step
returns-in_err-reduce-clause-step g c =
    let way = subst (λ (b : Bool). IsUnderWay (kinds_of c.args.tokens.now) c.args.self.now c.trails.self (g.G.Graph.means c.args.graph.now)
    (g.G.Graph.means c.trails.graph) c.args.steps.now c.trails.steps c.args.walk b) c.trails-test.true c.trails.invariant in
    unless_on c.in_err-reduce.field-0.0 c.from_residual-in_err-reduce.result
    (err_from_is_err_and c.from_residual-in_err-reduce.result c.from_residual-in_err-reduce.ensures.1)
    (λ step. way_step (kinds_of c.args.tokens.now) c.args.self.now c.trails.self (g.G.Graph.means c.args.graph.now) (g.G.Graph.means c.trails.graph)
    c.args.steps.now c.trails.steps c.args.walk c.requires.sound c.requires.top c.requires.link c.requires.fresh way
    c.reduce.new.self (g.G.Graph.means c.reduce.new.graph) c.reduce.new.steps step) c.in_err-reduce.ensures.step

pub next-requires-in-trails : goal.next-requires-in-trails
next-requires-in-trails g c =
    let way = subst (λ (b : Bool). IsUnderWay (kinds_of c.args.tokens.now) c.args.self.now c.trails.self (g.G.Graph.means c.args.graph.now)
    (g.G.Graph.means c.trails.graph) c.args.steps.now c.trails.steps c.args.walk b) c.trails-test.true c.trails.invariant in
    still_on (kinds_of c.args.tokens.now) c.args.self.now c.trails.self (g.G.Graph.means c.args.graph.now) (g.G.Graph.means c.trails.graph)
    c.args.steps.now c.trails.steps c.args.walk c.requires.sound c.requires.top c.requires.link c.requires.fresh way
    c.reduce.new.self (g.G.Graph.means c.reduce.new.graph) c.reduce.new.steps c.in_ok-reduce.ensures.step c.end-lower.result
    c.end-lower.ensures c.in_ok-reduce.ensures.stands c.in_ok-reduce.ensures.trail

pub trails-smaller : goal.trails-smaller
trails-smaller g c =
    let way = subst (λ (b : Bool). IsUnderWay (kinds_of c.args.tokens.now) c.args.self.now c.trails.self (g.G.Graph.means c.args.graph.now)
    (g.G.Graph.means c.trails.graph) c.args.steps.now c.trails.steps c.args.walk b) c.trails-test.true c.trails.invariant in
    subst (λ (b : Bool). calls_left c.next-in-trails.new.self c.in_ok-is_more-2.is_more < calls_left c.trails.self.trails b) (sym c.trails-test.true)
    (under_way_fewer (kinds_of c.args.tokens.now) c.args.self.now c.trails.self (g.G.Graph.means c.args.graph.now) (g.G.Graph.means c.trails.graph)
    c.args.steps.now c.trails.steps c.args.walk c.requires.sound c.requires.top c.requires.link c.requires.fresh way
    c.reduce.new.self (g.G.Graph.means c.reduce.new.graph) c.reduce.new.steps c.in_ok-reduce.ensures.step c.end-lower.result
    c.end-lower.ensures c.in_ok-reduce.ensures.stands c.in_ok-reduce.ensures.trail
    c.next-in-trails.new.self c.in_ok-is_more-2.is_more c.in_ok-is_more-2.ensures.walk c.in_ok-is_more-2.ensures.begun
    c.in_ok-is_more-2.ensures.on c.in_ok-is_more-2.ensures.next c.in_ok-is_more-2.ensures.end)

pub trails-preserved : goal.trails-preserved
trails-preserved g c =
    let way = subst (λ (b : Bool). IsUnderWay (kinds_of c.args.tokens.now) c.args.self.now c.trails.self (g.G.Graph.means c.args.graph.now)
    (g.G.Graph.means c.trails.graph) c.args.steps.now c.trails.steps c.args.walk b) c.trails-test.true c.trails.invariant in
    under_way_more (kinds_of c.args.tokens.now) c.args.self.now c.trails.self (g.G.Graph.means c.args.graph.now) (g.G.Graph.means c.trails.graph)
    c.args.steps.now c.trails.steps c.args.walk c.requires.sound c.requires.top c.requires.link c.requires.fresh way
    c.reduce.new.self (g.G.Graph.means c.reduce.new.graph) c.reduce.new.steps c.in_ok-reduce.ensures.step c.end-lower.result
    c.end-lower.ensures c.in_ok-reduce.ensures.stands c.in_ok-reduce.ensures.trail
    c.next-in-trails.new.self c.in_ok-is_more-2.is_more c.in_ok-is_more-2.ensures.walk c.in_ok-is_more-2.ensures.begun
    c.in_ok-is_more-2.ensures.on c.in_ok-is_more-2.ensures.next c.in_ok-is_more-2.ensures.end
    c.in_ok-reduce.ensures.reduced c.in_ok-reduce.ensures.within c.in_ok-reduce.ensures.never_back

pub returns-clause-walked : goal.returns-clause-walked
returns-clause-walked g c =
    let way = subst (λ (b : Bool). IsUnderWay (kinds_of c.args.tokens.now) c.args.self.now c.trails.self (g.G.Graph.means c.args.graph.now)
    (g.G.Graph.means c.trails.graph) c.args.steps.now c.trails.steps c.args.walk b) c.trails-test.false c.trails.invariant in
    under_way_all (kinds_of c.args.tokens.now) c.args.self.now c.trails.self (g.G.Graph.means c.args.graph.now) (g.G.Graph.means c.trails.graph)
    c.args.steps.now c.trails.steps c.args.walk way
