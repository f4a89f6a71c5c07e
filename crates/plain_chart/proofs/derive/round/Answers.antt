use Rattle.std.proofs.Common.{arith, refl, sym}
use Rattle.std.proofs.lemmas.Option.{slice_get_read}
use Rattle.plain_chart.proofs.derive.round.Goals as goal

pub returns-clause-settled : goal.returns-clause-settled
returns-clause-settled c = λ f r i j is l. c.loop-at.invariant.settled f r is.0 i j (slice_get_read _ _ _ _ refl is.1 (sym is.2)) (omega (arith, is.1)) l
