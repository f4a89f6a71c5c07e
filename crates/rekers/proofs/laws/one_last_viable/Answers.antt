use Rattle.std.proofs.Common.{arith}
use Rattle.rekers.proofs.laws.one_last_viable.Goals as goal

pub returns : goal.returns
returns c = λ rules kinds a b one other. omega (arith, one.none_behind other.kernel b other.reached, other.none_behind one.kernel a one.reached)
