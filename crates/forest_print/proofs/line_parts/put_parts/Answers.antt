use Rattle.forest_print.specs.Parts.{part_text}
use Rattle.forest_print.proofs.PrefixSteps.{stops_between, on_err}
use Rattle.forest_print.proofs.line_parts.put_parts.Goals as goal

pub returns-in_err-put_part-clause-prefix : goal.returns-in_err-put_part-clause-prefix
returns-in_err-put_part-clause-prefix c =
    on_err c.from_residual.result
    (stops_between part_text c.args.parts.now c.loop-part.part-index c.args.out.now.items c.loop-part.out.items c.put_part.new.out.items c.loop-part.invariant
    c.in_err-put_part.ensures.kept)
