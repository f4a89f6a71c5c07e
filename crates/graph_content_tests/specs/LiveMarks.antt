-- Marks that name what is live.
use Rattle.edit_log.specs.History.{Grammar}
use Rattle.isg_states.specs.declared.mark.Mark.{Mark}
use Rattle.isg_states.specs.Patterns.{IsMark}

-- the mark is an index of a live definition
pub record IsLiveMark (grammar : Grammar) (mark : Mark) : Type 0 where
  pub is : IsMark grammar mark
