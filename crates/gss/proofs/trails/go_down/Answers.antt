-- Down by the oldest links.
use Rattle.std.proofs.Common.{List, ℕ, sym, subst, arith}
use Rattle.gss.specs.Trails.{LeadsDown}
use Rattle.gss.proofs.TrailSteps.{IsGoing, going_none, going_more, going_below, going_stuck, going_whole}
use Rattle.gss.proofs.trails.go_down.Goals as goal

pub down-init : goal.down-init
down-init c =
    record { going = going_none c.args.graph.now.links c.args.walk c.args.part.now.links.items c.requires.part; met_is = c.requires.met }

pub returns-then-is_below-clause-goes : goal.returns-then-is_below-clause-goes
returns-then-is_below-clause-goes c =
    let down = subst (λ (ls : List ℕ). LeadsDown c.args.graph.now.links c.args.walk.last c.args.walk.top ls c.end_of-node.result) c.deref.ensures.value
    c.end_of-node.ensures in
    let below = c.is_below.ensures.below c.if-is_below.true in
    going_below c.args.graph.now.links c.args.walk c.args.part.now.links.items c.down.part.links.items c.down.invariant.going c.end_of-node.result
    (omega (arith, c.down-test.true, c.len.ensures)) down below.0 below.1

pub returns-in_default-clause-goes : goal.returns-in_default-clause-goes
returns-in_default-clause-goes c =
    let down = subst (λ (ls : List ℕ). LeadsDown c.args.graph.now.links c.args.walk.last c.args.walk.top ls c.end_of-node.result) c.deref.ensures.value
    c.end_of-node.ensures in
    going_stuck c.args.graph.now.links c.args.walk c.args.part.now.links.items c.down.part.links.items c.down.invariant.going c.end_of-node.result
    (omega (arith, c.down-test.true, c.len.ensures)) down c.in_default.ensures.none

pub down-preserved : goal.down-preserved
down-preserved c =
    let down = subst (λ (ls : List ℕ). LeadsDown c.args.graph.now.links c.args.walk.last c.args.walk.top ls c.end_of-node.result) c.deref.ensures.value
    c.end_of-node.ensures in
    record {
      going = subst (λ (ls : List ℕ). IsGoing c.args.graph.now.links c.args.walk c.args.part.now.links.items ls) (sym c.in_ok-put.ensures.links)
          (going_more c.args.graph.now.links c.args.walk c.args.part.now.links.items c.down.part.links.items c.down.invariant.going c.end_of-node.result
          c.in-Some.link (omega (arith, c.down-test.true, c.len.ensures)) down (c.is_below.ensures.above c.if-is_below.false)
          c.in-Some.ensures.first.0 c.in-Some.ensures.first.1);
      met_is = c.put.ensures.met;
    }

pub returns-clause-goes : goal.returns-clause-goes
returns-clause-goes c = going_whole c.args.graph.now.links c.args.walk c.args.part.now.links.items c.down.part.links.items c.down.invariant.going
    c.passes.result (omega (arith, c.down-test.false, c.len.ensures)) c.passes.ensures
