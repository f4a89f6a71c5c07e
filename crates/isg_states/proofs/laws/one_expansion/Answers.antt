use Rattle.isg_states.proofs.OneExpansion.{one_expansion}
use Rattle.isg_states.proofs.laws.one_expansion.Goals as goal

pub returns : goal.returns
returns c = λ grammar key one other a b. one_expansion grammar key one other a b
