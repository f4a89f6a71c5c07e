-- The first trail from a part on.
use Rattle.std.proofs.Common.{Bool, subst}
use Rattle.gss.specs.Descents.{GoesTo, TurnsTo}
use Rattle.gss.proofs.TrailOrders.{before_from}
use Rattle.gss.proofs.TrailSteps.{goes_on, finds_none, fewer_left}
use Rattle.gss.proofs.trails.find.Goals as goal

pub returns-then-not-turns-clause-finds : goal.returns-then-not-turns-clause-finds
returns-then-not-turns-clause-finds c =
    let goes = subst (λ (b : Bool). GoesTo c.args.graph.now.links c.args.walk c.args.part.now.links.items c.turns.part.links.items b) c.turns-test.true
    c.turns.invariant.goes in
    finds_none c.args.graph.now.links c.args.walk c.args.part.now.links.items c.turns.part.links.items goes c.turn.new.part.links.items
    (subst (λ (b : Bool). TurnsTo c.args.graph.now.links c.args.walk c.turns.part.links.items c.turn.new.part.links.items b) c.if-not-turns.true
    c.in_ok-turns.ensures.turns)

pub turns-smaller : goal.turns-smaller
turns-smaller c =
    let turns = subst (λ (b : Bool). TurnsTo c.args.graph.now.links c.args.walk c.turns.part.links.items c.turn.new.part.links.items b) c.if-not-turns.false
    c.in_ok-turns.ensures.turns in
    fewer_left c.args.graph.now.links c.args.walk c.turns.part.links.items c.go_down-in-turns.new.part.links.items c.turns.invariant.goes.part
    c.in_ok-is_whole-2.ensures.goes.part
    (before_from c.turns.part.links.items c.turn.new.part.links.items c.go_down-in-turns.new.part.links.items turns.0 c.in_ok-is_whole-2.ensures.goes.from)

pub turns-preserved : goal.turns-preserved
turns-preserved c =
    let goes = subst (λ (b : Bool). GoesTo c.args.graph.now.links c.args.walk c.args.part.now.links.items c.turns.part.links.items b) c.turns-test.true
    c.turns.invariant.goes in
    let turns = subst (λ (b : Bool). TurnsTo c.args.graph.now.links c.args.walk c.turns.part.links.items c.turn.new.part.links.items b) c.if-not-turns.false
    c.in_ok-turns.ensures.turns in
    record {
      goes = goes_on c.args.graph.now.links c.args.walk c.args.part.now.links.items c.turns.part.links.items goes c.turn.new.part.links.items
          c.go_down-in-turns.new.part.links.items c.in_ok-is_whole-2.is_whole turns c.in_ok-is_whole-2.ensures.goes;
      met_is = c.go_down-in-turns.ensures.met;
    }
