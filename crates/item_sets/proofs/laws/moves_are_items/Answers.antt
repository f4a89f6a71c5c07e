use Rattle.item_sets.proofs.ExpansionLaws.{upper_items}
use Rattle.item_sets.proofs.laws.moves_are_items.Goals as goal

pub returns : goal.returns
returns c = upper_items
