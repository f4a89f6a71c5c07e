use Rattle.std.proofs.Common.{arith}
use Rattle.rekers.proofs.Sizes.{size_above}
use Rattle.rekers.proofs.laws.within_or_above.Goals as goal

pub returns : goal.returns
returns c = λ rules kinds size limit is within above. omega (arith, within, size_above rules kinds size limit is above)
