use Rattle.item_sets.proofs.Numbering.{one_right, numbered}
use Rattle.item_sets.proofs.ExpansionLaws.{valid_items}
use Rattle.item_sets.proofs.laws.closure_is_valid.Goals as goal

pub returns : goal.returns
returns c = λ grammar formed g kernel is. valid_items grammar.rules (one_right _ (numbered grammar formed)) is
