use Rattle.std.proofs.Common.{Option, IfSome, subst}
use Rattle.isg_states.specs.declared.ranges.ScanExpansion.{ScanExpansion}
use Rattle.isg_states.specs.Expansion.{IsScanExpansionOf}
use Rattle.row_coding.specs.Rows.{scan}
use Rattle.graph_content.specs.Affected.{IsKey}
use Rattle.graph_content_tests.proofs.Members.{state_row}
use Rattle.graph_content_tests.proofs.scan_rows.row_in.Goals as goal

pub returns-in_ok-row-in-Some : goal.returns-in_ok-row-in-Some
returns-in_ok-row-in-Some c =
    let g = c.args.grammar.now.grammar in
    let key = c.args.key.now in
    let found = subst (λ (o : Option ScanExpansion). IfSome o (λ e. IsKey g (scan key)
    × IsScanExpansionOf g key e.ranges)) c.in-Some.is c.in_ok-expansion.ensures in
    state_row g key c.in-Some.expansion c.in_ok-row-in-Some.row.items found.0 found.1 c.in_ok-row-in-Some.ensures
