use Rattle.std.proofs.Common.{inl, inr, arith}
use Rattle.std.proofs.lemmas.List.{length-map}
use Rattle.packed_spans.specs.Tables.{row_span}
use Rattle.packed_spans.proofs.Lists.{contains_at}
use Rattle.packed_spans.proofs.Parts.{no_parts_marked, part_marked, both_marked}
use Rattle.packed_spans.proofs.Rows.{first_known, second_known}
use Rattle.packed_spans.proofs.marks.mark_parts.Goals as goal

pub mark_part-requires : goal.mark_part-requires
mark_part-requires c = elim (first_known _ _ _ c.requires.stored c.if-row-eq-INLINE_PARTS.true) [
  | inl token ↦ inl token
  | inr within ↦ inr (omega arith)
]

pub mark_part-requires-then-row-eq-INLINE_PARTS : goal.mark_part-requires-then-row-eq-INLINE_PARTS
mark_part-requires-then-row-eq-INLINE_PARTS c = elim (second_known _ _ _ c.requires.stored c.if-row-eq-INLINE_PARTS.true) [
  | inl token ↦ inl token
  | inr within ↦ inr (omega (arith, c.in_ok-mark_part.ensures.size))
]

pub returns-then-row-eq-INLINE_PARTS : goal.returns-then-row-eq-INLINE_PARTS
returns-then-row-eq-INLINE_PARTS c =
    both_marked _ _ _ _ _ _ _ _ _ c.if-row-eq-INLINE_PARTS.true c.in_ok-mark_part.ensures c.in_ok-mark_part-2.ensures

pub mark_part-requires-in-loop-index : goal.mark_part-requires-in-loop-index
mark_part-requires-in-loop-index c = elim (c.requires.stored.are_parts c.part.result (contains_at _ _ _ c.part.ensures)) [
  | inl token ↦ inl token
  | inr within ↦ inr (omega (arith, length-map c.args.table.now.spans.items row_span))
]

pub loop-index-init : goal.loop-index-init
loop-index-init c = no_parts_marked _ _ _ _ _

pub loop-index-preserved : goal.loop-index-preserved
loop-index-preserved c =
    part_marked _ _ _ _ _ c.loop-index.index c.part.result _ _ _ _ c.part.ensures c.loop-index.invariant c.in_ok-mark_part-3.ensures
