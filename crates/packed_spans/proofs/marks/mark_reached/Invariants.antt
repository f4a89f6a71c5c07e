use Rattle.std.proofs.Common.{◌≡◌, ◌≤◌, [], length}
use Rattle.packed_spans.specs.Marks.{IsSwept}
use Rattle.packed_spans.proofs.marks.mark_reached.Given as goal

-- the sweep is as far as the number, and nothing waits
abbrev pub invariant-loop-number : goal.invariant-loop-number
invariant-loop-number l = record {
  size : length l.marks.marked.items ≡ length l.table.spans.items;
  low : l.number ≤ length l.table.spans.items;
  nothing : l.marks.waiting.items ≡ [];
  swept : IsSwept l.table.splits.items l.table.parts.items l.root l.number l.marks.marked.items (λ n. ⊥);
}

abbrev pub decreases-loop-number : goal.decreases-loop-number
decreases-loop-number l = l.number
