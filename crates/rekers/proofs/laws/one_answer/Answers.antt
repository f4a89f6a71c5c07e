use Rattle.forest.proofs.OneForest.{one_forest}
use Rattle.rekers.proofs.laws.one_answer.Goals as goal

pub returns-clause-one : goal.returns-clause-one
returns-clause-one c = one_forest
