use Rattle.std.proofs.Common.{length}
use Rattle.forest.specs.declared.symbols.TheConstants.{START}
use Rattle.plain_chart.proofs.Fine.{known_derived}
use Rattle.plain_chart.proofs.small_chart.Goals as goal

pub forest_of-requires-clause-sentence : goal.forest_of-requires-clause-sentence
forest_of-requires-clause-sentence c =
    let whole = rw c.as_slice.ensures at c.in_ok-known.ensures in
    known_derived _ _ _ whole.fine.derived START 0 (length c.args.tokens.now) (c.is_known.ensures.0 c.if-not-is_known.false)
