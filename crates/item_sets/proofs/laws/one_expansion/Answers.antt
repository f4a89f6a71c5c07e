use Rattle.item_sets.proofs.ExpansionLaws.{one_moves, one_reductions}
use Rattle.item_sets.proofs.laws.one_expansion.Goals as goal

pub returns : goal.returns
returns c = λ rules kernel a b e f. (one_moves rules kernel a b e f, one_reductions rules kernel a b e f)
