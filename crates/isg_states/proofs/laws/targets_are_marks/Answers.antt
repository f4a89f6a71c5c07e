use Rattle.isg_states.proofs.Tables.{range_marks}
use Rattle.isg_states.proofs.laws.targets_are_marks.Goals as goal

pub returns : goal.returns
returns c = λ grammar key ranges e range there. range_marks grammar key range (e.each range there)
