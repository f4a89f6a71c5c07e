use Rattle.isg_states.proofs.PositionsAfter.{from_first, to_first}
use Rattle.isg_states.proofs.laws.after_first.Goals as goal

pub returns : goal.returns
returns c = λ grammar byte mark. (from_first grammar byte mark, to_first grammar byte mark)
