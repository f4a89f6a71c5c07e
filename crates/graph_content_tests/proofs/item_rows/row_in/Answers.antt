use Rattle.std.proofs.Common.{Option, IfSome, subst}
use Rattle.item_sets.specs.declared.expansion.Expansion.{Expansion}
use Rattle.item_sets.specs.Expansions.{IsExpansionOf}
use Rattle.row_coding.specs.Rows.{kernel}
use Rattle.graph_content.specs.Affected.{IsKey}
use Rattle.graph_content_tests.proofs.Members.{kernel_row}
use Rattle.graph_content_tests.proofs.item_rows.row_in.Goals as goal

pub returns-in_ok-row-in-Some : goal.returns-in_ok-row-in-Some
returns-in_ok-row-in-Some c =
    let g = c.args.grammar.now.grammar in
    let items = c.args.kernel.now in
    let found = subst (λ (o : Option Expansion). IfSome o (λ e. IsKey g (kernel items) × IsExpansionOf g.rules items e)) c.in-Some.is c.in_ok-expansion.ensures
    in
    kernel_row g items c.in-Some.expansion c.in_ok-row-in-Some.row.items found.0 found.1 c.in_ok-row-in-Some.ensures
