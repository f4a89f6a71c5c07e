use Rattle.std.proofs.Common.{sym, subst}
use Rattle.isg_states.specs.Expansion.{AreMarks}
use Rattle.live_graph.specs.Kept.{means_alone}
use Rattle.isg_scan_tests.proofs.Targets.{same_grammar}
use Rattle.isg_scan_tests.proofs.states.told_leading.Goals as goal

pub returns : goal.returns
returns g c =
    let old = means_alone c.args.graph.now in
    let new = means_alone c.scan.follows.lender-at-none in
    subst (λ grammar. AreMarks grammar c.args.key.now) (sym
    (same_grammar old new c.args.key.now c.args.steps.now c.scan.new.steps c.scan.result c.in_ok-expansion.expansion c.scan.follows.holds-at-none.0
    c.in_ok-expansion.was)) c.requires
