use Rattle.std.proofs.Common.{◌≡◌, ◌+◌, length, take, Contains}
use Rattle.isg_states.specs.declared.mark.Mark.{Mark}
use Rattle.isg_states.specs.Marks.{ListsMarks}
use Rattle.isg_states.specs.Patterns.{FollowsMark}
use Rattle.isg_states.specs.Candidates.{AreSmall}
use Rattle.isg_states.proofs.next_marks.following_marks.Given as goal

-- the positions that follow one of the members so far
abbrev pub invariant-loop-member : goal.invariant-loop-member
invariant-loop-member g l = record {
  marks : ListsMarks (λ m. (member : Mark) × Contains (take l.member-index l.members) member × FollowsMark l.grammar.grammar member m) l.found.items;
  small : AreSmall l.found.items;
  taken : l.steps ≡ l.fn.steps + length l.found.items;
}
