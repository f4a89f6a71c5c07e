use Rattle.packed_spans.specs.Marks.{IsPartNumber, MarksExactly}
use Rattle.packed_spans.proofs.marks.mark_parts.Given as goal

-- the first parts are marked
abbrev pub invariant-loop-index : goal.invariant-loop-index
invariant-loop-index l = MarksExactly (IsPartNumber l.table.parts.items l.row l.index) l.limit l.initial.marks.marked.items l.initial.marks.waiting.items
    l.marks.marked.items l.marks.waiting.items
