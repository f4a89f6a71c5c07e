use Rattle.forest_print.specs.Lines.{cut_text}
use Rattle.forest_print.proofs.PrefixSteps.{stops_between, on_err}
use Rattle.forest_print.proofs.forest_lines.put_cuts.Goals as goal

pub returns-in_err-put-clause-prefix : goal.returns-in_err-put-clause-prefix
returns-in_err-put-clause-prefix c =
    on_err c.from_residual.result
    (stops_between cut_text c.args.cuts.now c.loop-cut.cut-index c.args.lines.now c.loop-cut.lines c.put.new.lines c.loop-cut.invariant
    c.in_err-put.ensures.kept)
