use Rattle.std.proofs.Common.{subst}
use Rattle.forest_print.specs.Lines.{split_line}
use Rattle.forest_print.specs.Prefixes.{AppendsPrefix}
use Rattle.forest_print.proofs.PrefixSteps.{stops_at, on_err}
use Rattle.forest_print.proofs.forest_lines.put_splits.Goals as goal

pub returns-in_err-put_split-clause-prefix : goal.returns-in_err-put_split-clause-prefix
returns-in_err-put_split-clause-prefix c =
    let begun = subst (λ split. AppendsPrefix c.loop-split.lines c.put_split.new.lines
    (split_line split)) c.split-item.is c.in_err-put_split.ensures.prefix in
    on_err c.from_residual.result
    (stops_at split_line c.args.splits.now c.loop-split.split-index c.split-item.result c.args.lines.now c.loop-split.lines c.put_split.new.lines
    c.loop-split-test.true c.loop-split.invariant begun)
