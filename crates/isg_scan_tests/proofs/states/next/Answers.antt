use Rattle.std.proofs.Common.{◌≡◌, List, IfSome, Contains, subst}
use Rattle.isg_states.specs.Expansion.{Range}
use Rattle.live_graph.specs.Kept.{means_alone}
use Rattle.isg_scan_tests.proofs.Targets.{same_grammar, found_marks}
use Rattle.isg_scan_tests.proofs.states.next.Goals as goal

pub returns : goal.returns
returns g c =
    let old = means_alone c.args.graph.now in
    let new = means_alone c.scan.follows.lender-at-none in
    found_marks old.grammar new.grammar
    (same_grammar old new c.args.key.now c.args.steps.now c.scan.new.steps c.scan.result c.in_ok-expansion.expansion c.scan.follows.holds-at-none.0
    c.in_ok-expansion.was) c.args.key.now c.in_ok-expansion.expansion.now.ranges c.in_ok-expansion.ensures.expansion c.in_ok-found.found
    (subst (λ (ranges : List Range). IfSome c.in_ok-found.found (λ k. (range : Range) × Contains ranges range
    × (k ≡ range.2))) c.as_slice.ensures c.in_ok-found.ensures)
