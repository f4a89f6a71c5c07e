use Rattle.std.proofs.Common.{◌≡◌, ◌<◌, Some, slice_get, sym, subst}
use Rattle.parser_states.specs.Parts.{part_of}
use Rattle.parser_states.specs.Known.{Known, known}
use Rattle.parser_states.specs.Expanded.{AreExpandedIn}
use Rattle.parser_states.specs.Reductions.{ListsReductions}
use Rattle.parser_states.proofs.Reading.{row_told}
use Rattle.parser_states.proofs.states.States.reductions.Goals as goal

pub returns : goal.returns
returns c = λ rules kernel expanded named.
    let states = known c.self.inside.table in
    let row = row_told rules states (subst (AreExpandedIn rules) (sym c.self.view_is) expanded).told c.args.state kernel
    (subst (λ (v : Known). slice_get v.kernels c.args.state ≡ Some kernel) (sym c.self.view_is) named) c.index.result.now c.index.ensures in
    subst (λ list. ListsReductions rules kernel (λ size. 0 < size) (part_of c.index.result.now.reductions list)) (sym c.deref.ensures.value) row.reductions
