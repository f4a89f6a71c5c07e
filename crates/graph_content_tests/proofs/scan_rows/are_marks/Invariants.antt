use Rattle.std.proofs.Common.{take, Contains}
use Rattle.isg_states.specs.declared.mark.Mark.{Mark}
use Rattle.graph_content_tests.specs.LiveMarks.{IsLiveMark}
use Rattle.graph_content_tests.proofs.scan_rows.are_marks.Given as goal

-- each mark so far is one of the grammar
abbrev pub invariant-loop-mark : goal.invariant-loop-mark
invariant-loop-mark l = (mark : Mark) → Contains (take l.mark-index l.marks) mark → IsLiveMark l.grammar.grammar mark
