use Rattle.packed_spans.specs.Marks.{IsPartBelow, MarksExactly}
use Rattle.packed_spans.proofs.Links.{IsAlong}
use Rattle.packed_spans.proofs.marks.mark_below.Given as goal

-- the parts of the splits from the link on are marked
abbrev pub invariant-loop-link : goal.invariant-loop-link
invariant-loop-link l = record {
  along : IsAlong l.table.splits.items l.number l.link;
  marks : MarksExactly (IsPartBelow l.table.splits.items l.table.parts.items l.number l.link) l.limit
      l.initial.marks.marked.items l.initial.marks.waiting.items l.marks.marked.items l.marks.waiting.items;
}

abbrev pub decreases-loop-link : goal.decreases-loop-link
decreases-loop-link l = l.link
