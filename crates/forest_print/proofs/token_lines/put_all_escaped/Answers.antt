use Rattle.grammar_text.specs.Canonical.{escaped}
use Rattle.forest_print.proofs.PrefixSteps.{stops_between, on_err}
use Rattle.forest_print.proofs.token_lines.put_all_escaped.Goals as goal

pub returns-in_err-put_escaped-clause-prefix : goal.returns-in_err-put_escaped-clause-prefix
returns-in_err-put_escaped-clause-prefix c =
    on_err c.from_residual.result
    (stops_between escaped c.args.bytes.now c.loop-byte.byte-index c.args.out.now.items c.loop-byte.out.items c.put_escaped.new.out.items c.loop-byte.invariant
    c.in_err-put_escaped.ensures.kept)
