use Rattle.std.proofs.Common.{◌∙◌, ap}
use Rattle.graph_content.specs.Parts.{names_among}
use Rattle.row_coding.specs.Rows.{scan}
use Rattle.graph_content.proofs.RowTests.{start_row, set_row, scan_row_long}
use Rattle.graph_content.proofs.touching.touches_scan.Goals as goal

pub bounds-row-2 : goal.bounds-row-2
bounds-row-2 c = let (g, key, is) = c.requires in scan_row_long key c.args.row.now is.payload is.words

pub returns-then-row-eq2 : goal.returns-then-row-eq2
returns-then-row-eq2 c = λ g key fit is. start_row g c.args.touch.now key c.args.row.now is.payload is.words c.if-row-eq2.true

pub returns : goal.returns
returns c = λ g key fit is.
    set_row g c.args.touch.now key c.args.row.now is.payload c.names_in.result.now is.words c.if-row-eq2.false fit
    (c.names_in.ensures (scan key) is.payload is.words) c.names_among.result
    (c.names_among.ensures ∙ ap (λ ds. names_among ds c.names_in.result.now) c.as_slice.ensures)
