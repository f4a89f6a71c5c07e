use Rattle.item_sets.proofs.Numbering.{one_right, numbered}
use Rattle.item_sets.proofs.ExpansionLaws.{moves_to, moves_from}
use Rattle.item_sets.proofs.laws.moves_are_kernels.Goals as goal

pub returns : goal.returns
returns c = λ grammar formed g kernel is expansion e x upper.
    let numbers = one_right grammar.rules (numbered grammar formed) in (
      λ there. moves_to grammar.rules numbers is x upper ((e.moves x upper).0 there),
      λ both. (e.moves x upper).1 (moves_from grammar.rules numbers is x upper both.0 both.1),
    )
