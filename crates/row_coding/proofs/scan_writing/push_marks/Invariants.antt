use Rattle.std.proofs.Common.{◌≡◌, ◌++◌, map, take, vec_capacity}
use Rattle.isg_states.specs.Marks.{mark_number}
use Rattle.row_coding.proofs.scan_writing.push_marks.Given as goal

abbrev pub invariant-loop-mark : goal.invariant-loop-mark
invariant-loop-mark l =
    (l.words.items ≡ l.initial.words.items ++ map mark_number (take l.mark-index l.marks)) × (vec_capacity l.words ≡ vec_capacity l.initial.words)
