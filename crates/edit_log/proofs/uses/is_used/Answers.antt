use Rattle.std.proofs.Common.{arith}
use Rattle.edit_log.proofs.RowLists.{used_row}
use Rattle.edit_log.proofs.uses.is_used.Goals as goal

pub returns : goal.returns
returns c = used_row c.args.rows.now c.args.symbol c.args.count c.index-rows-place.result c.is_some.result (omega arith) c.index-rows-place.is
    (omega (arith, c.if-row-count.false)) c.is_some.ensures
