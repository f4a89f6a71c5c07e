use Rattle.std.proofs.Common.{◌≡◌, ℕ, zero, suc, false, ◌==◌, ◌+◌, ◌*◌, ◌<◌, ◌≤◌, List, sym, ◌∙◌, subst, arith}
use Rattle.std.proofs.lemmas.Bool.{eqb-true}
use Rattle.std.specs.List.Sorted.{IsStrictlySortedBy}
use Rattle.isg_states.specs.declared.mark.Mark.{Mark}
use Rattle.isg_states.specs.Expansion.{Range}
use Rattle.isg_states.specs.Marks.{mark_cmp}
use Rattle.isg_states.specs.Candidates.{marks_with, TellsBelow}
use Rattle.isg_states.proofs.CandidateLists.{with_order}
use Rattle.isg_states.proofs.ClassEnds.{same_marks}
use Rattle.isg_states.proofs.RangeLists.{tells_more, tells_no_more}
use Rattle.isg_states.proofs.byte_ranges.add_word.Goals as goal
use Rattle.isg_states.proofs.byte_ranges.add_word.Goals.{then-not-is_empty+in_ok-add_range, else-not-is_empty}

some_of : (n : ℕ) → false ≡ (n == 0) → 0 < n
some_of zero e = absurd cc
some_of (suc n) e = omega arith

behind : (led : ℕ → List Mark) (start high : ℕ) (ranges : List Range) → TellsBelow led (start + high + 1) ranges → TellsBelow led (start + (high + 1)) ranges
behind led start high ranges = subst (λ n. TellsBelow led n ranges) (let e : start + high + 1 ≡ start + (high + 1) = omega arith in e)

pub add_range-requires : goal.add_range-requires
add_range-requires c =
    let at : c.as_slice-led.result.now ≡ marks_with c.args.candidates.now (64 * c.args.number + c.loop-low.low) =
    c.as_slice-led.ensures.value ∙ c.in_ok-with_byte.ensures in
    record {
      some = some_of _ c.if-not-is_empty.ensures;
      order = subst (IsStrictlySortedBy mark_cmp) (sym at) (with_order c.args.candidates.now (64 * c.args.number + c.loop-low.low) c.requires.order);
    }

pub loop-low-preserved : goal.loop-low-preserved
loop-low-preserved c =
    let led = marks_with c.args.candidates.now in
    let start : ℕ = 64 * c.args.number in
    let low : ℕ = c.loop-low.low in
    let high : ℕ = c.end_from-high.result in
    let up : start + low ≤ start + high = (let k = c.end_from-high.ensures.from in omega arith) in
    let at : c.as_slice-led.result.now ≡ led (start + low) = c.as_slice-led.ensures.value ∙ c.in_ok-with_byte.ensures in
    let same : (byte : ℕ) → start + low ≤ byte → byte ≤ start + high → led byte ≡ c.as_slice-led.result.now = λ byte from to.
    same_marks c.args.candidates.now c.args.number c.ends_of-ends.result low high c.ends_of-ends.ensures c.end_from-high.ensures.within
    c.end_from-high.ensures.none byte from to ∙ sym at in
    record {
      within = (let k = c.end_from-high.ensures.within in omega arith);
      told = λ t. behind led start high _ (elim c.if-not-is_empty.branch [
        | then-not-is_empty+in_ok-add_range w ↦ rw w.ranges-is
            (tells_more led (start + low) (start + high) _ _ c.as_slice-led.result.now up (c.loop-low.invariant.told t) same
            (some_of _ w.if-not-is_empty.ensures) w.in_ok-add_range.ensures)
        | else-not-is_empty w ↦ rw w.ranges-is
            (tells_no_more led (start + low) (start + high) _ c.as_slice-led.result.now up (c.loop-low.invariant.told t) same
            (eqb-true _ 0 (sym w.if-not-is_empty.ensures)))
      ]);
    }
