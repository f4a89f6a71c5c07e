use Rattle.isg_states.proofs.PositionsAfter.{from_accepts, to_accepts}
use Rattle.isg_states.proofs.laws.accepted_is_winner.Goals as goal

pub returns : goal.returns
returns c = λ grammar piece marks some small lists definition. (
  from_accepts grammar piece marks some small lists definition,
  to_accepts grammar piece marks some small lists definition,
)
