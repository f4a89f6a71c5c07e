use Rattle.std.proofs.Common.{◌≡◌, ◌+◌, length, take, Contains}
use Rattle.isg_states.specs.Marks.{ListsMarks}
use Rattle.isg_states.specs.Patterns.{IsFirstMark}
use Rattle.isg_states.specs.Candidates.{AreSmall}
use Rattle.isg_states.proofs.next_marks.first_marks.Given as goal

-- the first positions of the definitions so far
abbrev pub invariant-loop-definition : goal.invariant-loop-definition
invariant-loop-definition g l = record {
  marks : ListsMarks (λ m. IsFirstMark l.grammar.grammar m × Contains (take l.definition-index l.definition-items) m.def) l.found.items;
  small : AreSmall l.found.items;
  taken : l.steps ≡ l.fn.steps + length l.found.items;
}
