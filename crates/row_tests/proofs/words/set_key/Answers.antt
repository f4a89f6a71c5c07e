use Rattle.std.proofs.Common.{[], ◌∷◌, arith}
use Rattle.std.specs.List.Sorted.{IsStrictlySortedBy}
use Rattle.isg_states.specs.declared.mark.Mark.{Mark}
use Rattle.isg_states.specs.Marks.{AreAscending}
use Rattle.row_tests.proofs.words.set_key.Goals as goal

-- one mark ascends
one : (mark : Mark) → AreAscending (mark ∷ [])
unfolding IsStrictlySortedBy
one mark = record { some = omega arith; order = (tt, tt) }

pub of-requires : goal.of-requires
of-requires c = one _
