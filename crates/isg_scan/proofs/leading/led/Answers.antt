use Rattle.std.proofs.Common.{sym, subst}
use Rattle.isg_states.specs.Expansion.{IsScanExpansionOf}
use Rattle.live_graph.specs.Asking.{AsksScan}
use Rattle.isg_scan.proofs.Ranges.{on_ok, stands_of, led_range, led_nowhere}
use Rattle.isg_scan.proofs.leading.led.Goals as goal

pub returns-in_err-clone-in-Some-clause-stands : goal.returns-in_err-clone-in-Some-clause-stands
returns-in_err-clone-in-Some-clause-stands g c =
    stands_of (g.G.Graph.means c.args.graph.now) (g.G.Graph.means c.scan.follows.lender-at-none) c.args.key.now c.args.steps.now c.scan.new.steps
    (on_ok c.scan.result c.in_ok-expansion.expansion
    (AsksScan (g.G.Graph.means c.args.graph.now) c.args.key.now (g.G.Graph.means c.scan.follows.lender-at-none) c.args.steps.now c.scan.new.steps)
    c.in_ok-expansion.was c.scan.follows.holds-at-none.0)

pub returns-in_ok-clone-in-Some-clause-led : goal.returns-in_ok-clone-in-Some-clause-led
returns-in_ok-clone-in-Some-clause-led g c =
    led_range (g.G.Graph.means c.args.graph.now).grammar c.args.key.now c.as_slice.result.now
    (subst (IsScanExpansionOf (g.G.Graph.means c.args.graph.now).grammar c.args.key.now) (sym c.as_slice.ensures) c.in_ok-expansion.ensures.expansion)
    c.in-Some.range.now c.args.byte c.in_ok-clone-in-Some.field-0 c.in-Some.ensures.0 c.in-Some.ensures.1 c.in_ok-clone-in-Some.ensures.cases

pub returns-in-None-clause-led : goal.returns-in-None-clause-led
returns-in-None-clause-led g c =
    led_nowhere (g.G.Graph.means c.args.graph.now).grammar c.args.key.now c.as_slice.result.now
    (subst (IsScanExpansionOf (g.G.Graph.means c.args.graph.now).grammar c.args.key.now) (sym c.as_slice.ensures) c.in_ok-expansion.ensures.expansion)
    c.args.byte c.ranges.byte.fits c.in-None.ensures
