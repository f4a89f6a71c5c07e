use Rattle.std.proofs.Common.{◌≡◌, ◌<◌, inl, inr, arith}
use Rattle.packed_spans_tests.proofs.rows.add_split.Goals as goal

pub add_split-requires-clause-parts : goal.add_split-requires-clause-parts
add_split-requires-clause-parts c = λ part k. elim (c.in_ok-parts.ensures part (rw c.as_slice.ensures.value at k)) [
  | inl token ↦ inl token
  | inr within ↦ inr (omega (arith, within, c.span_count-count.ensures))
]
