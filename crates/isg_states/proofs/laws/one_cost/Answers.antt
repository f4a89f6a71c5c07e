use Rattle.isg_states.proofs.OneExpansion.{one_cost}
use Rattle.isg_states.proofs.laws.one_cost.Goals as goal

pub returns : goal.returns
returns c = λ grammar key one other a b. one_cost grammar key one other a b
