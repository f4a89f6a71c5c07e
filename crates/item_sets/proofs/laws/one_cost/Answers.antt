use Rattle.item_sets.proofs.ExpansionLaws.{one_count}
use Rattle.item_sets.proofs.laws.one_cost.Goals as goal

pub returns : goal.returns
returns c = one_count
