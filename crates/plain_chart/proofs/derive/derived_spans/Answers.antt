use Rattle.std.proofs.Common.{arith}
use Rattle.plain_chart.proofs.Fine.{known_all}
use Rattle.plain_chart.proofs.Universe.{known_at_most}
use Rattle.plain_chart.proofs.derive.derived_spans.Goals as goal

pub loop-known-smaller : goal.loop-known-smaller
loop-known-smaller c = omega (arith, c.in_ok-round.ensures.grows.more c.if-branch.true, known_at_most _ _ _ c.in_ok-round.ensures.grows.fine)

pub returns : goal.returns
returns c = record { fine = c.in_ok-round.ensures.grows.fine; all = λ x i j d h. known_all _ _ _ (c.in_ok-round.ensures.settled c.if-branch.false) x i j d h }
