use Rattle.isg_states.proofs.OneExpansion.{one_accepted}
use Rattle.isg_states.proofs.laws.one_accepted.Goals as goal

pub returns : goal.returns
returns c = λ grammar key one other a b. one_accepted grammar key one other a b
