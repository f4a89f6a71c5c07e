use Rattle.std.proofs.Common.{◌≡◌, ℕ, ◌+◌, length, Contains}
use Rattle.packed_spans.specs.Marks.{IsMarked, IsSwept, left}
use Rattle.packed_spans.proofs.marks.settle.Given as goal

-- what waits is marked, and of all others from the number on the parts are too
abbrev pub invariant-loop-next : goal.invariant-loop-next
invariant-loop-next l = record {
  size : length l.marks.marked.items ≡ length l.table.spans.items;
  waiting : (n : ℕ) → Contains l.marks.waiting.items n → IsMarked l.marks.marked.items n;
  swept : (root : ℕ) → IsSwept l.table.splits.items l.table.parts.items root (l.number + 1) l.fn.marks.marked.items (λ n. ⊥)
      → IsSwept l.table.splits.items l.table.parts.items root l.number l.marks.marked.items (Contains l.marks.waiting.items);
}

abbrev pub decreases-loop-next : goal.decreases-loop-next
decreases-loop-next l = left l.marks.marked.items l.marks.waiting.items
