use Rattle.isg_states.proofs.PositionsAfter.{from_longer, to_longer}
use Rattle.isg_states.proofs.laws.after_longer.Goals as goal

pub returns : goal.returns
returns c = λ grammar piece marks some lists byte mark. (from_longer grammar piece marks lists byte mark, to_longer grammar piece marks some lists byte mark)
