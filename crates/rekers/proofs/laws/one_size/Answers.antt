use Rattle.rekers.proofs.Sizes.{one_size}
use Rattle.rekers.proofs.laws.one_size.Goals as goal

pub returns : goal.returns
returns c = one_size
