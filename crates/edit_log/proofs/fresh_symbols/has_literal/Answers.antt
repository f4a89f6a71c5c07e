use Rattle.std.proofs.Common.{sym, ap, ◌∙◌}
use Rattle.std.proofs.lemmas.Option.{slice_get_within, get_or_from_slice_get}
use Rattle.std.proofs.lemmas.List.Folds.{list_any_at}
use Rattle.edit_log.specs.Live.{is_literal}
use Rattle.edit_log.specs.Replicas.{symbols_in}
use Rattle.edit_log.proofs.FreshSymbols.{symbol_in}
use Rattle.edit_log.proofs.fresh_symbols.has_literal.Goals as goal

pub returns-in-Literal : goal.returns-in-Literal
returns-in-Literal c =
    let symbols = symbols_in c.args.fresh.now in
    let i = c.loop-one.one-index in
    let s = c.one-item.result.symbol in
    let at = symbol_in c.args.fresh.now i c.one-item.result c.loop-one-test.true c.one-item.is in
    sym (list_any_at is_literal symbols i s (slice_get_within symbols i s at) (ap is_literal (get_or_from_slice_get symbols i s s at ∙ c.in-Literal.is)))
