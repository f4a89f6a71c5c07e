use Rattle.std.proofs.Common.{◌≡◌, Some, slice_get, sym, subst}
use Rattle.parser_states.specs.Known.{Known, known}
use Rattle.parser_states.specs.Expanded.{AreExpandedIn}
use Rattle.parser_states.proofs.Reading.{has_move_told}
use Rattle.parser_states.proofs.states.States.has_move.Goals as goal

pub returns : goal.returns
returns c = λ rules kernel expanded named. rw c.is_some.ensures (has_move_told rules (known c.self.inside.table)
    (subst (AreExpandedIn rules) (sym c.self.view_is) expanded).told c.args.state kernel
    (subst (λ (v : Known). slice_get v.kernels c.args.state ≡ Some kernel) (sym c.self.view_is) named) c.args.symbol c.place_of_move.result
    c.place_of_move.ensures.found c.place_of_move.ensures.none)
