use Rattle.std.proofs.Common.{◌≡◌, ◌<◌, ◌+◌, ◌-◌, length, arith, subst, sym, replicate, false, true, ◌∙◌, ap}
use Rattle.std.proofs.lemmas.List.{length-set, length-replicate}
use Rattle.packed_spans.specs.Marks.{IsSwept}
use Rattle.packed_spans.proofs.Sweeping.{sweep_begins, sweep_ends, filled}
use Rattle.packed_spans.proofs.marks.mark_reached.Goals as goal

pub loop-number-init : goal.loop-number-init
loop-number-init c =
    let count : c.len-number.result ≡ c.len.result = c.len-number.ensures ∙ sym c.len.ensures in
    let low : c.args.root < c.len.result = omega (arith, c.len.ensures) in
    let fresh : c.resize.new.self.items ≡ replicate c.len.result false =
    c.in_ok-resize.ensures.items ∙ filled c.len.result _ c.clear-2.new.self.items c.clear-2.ensures.items c.clear-2.ensures.len in
    let swept = sweep_begins c.args.table.now.splits.items c.args.table.now.parts.items c.args.root c.len.result low in
    record {
      size = omega (arith, length-set c.resize.new.self.items c.args.root true, ap length fresh, length-replicate c.len.result false, c.len.ensures);
      low = omega (arith, c.len-number.ensures);
      nothing = c.clear.ensures.items;
      swept = rw (count, fresh) swept;
    }

pub loop-number-preserved : goal.loop-number-preserved
loop-number-preserved c =
    let one : c.loop-number.number ≡ c.loop-number.number - 1 + 1 = omega arith in
    let before = subst (λ n. IsSwept c.args.table.now.splits.items c.args.table.now.parts.items c.args.root n c.loop-number.marks.marked.items (λ m. ⊥))
    one c.loop-number.invariant.swept in
    let swept = c.in_ok-settle.ensures.swept c.args.root before in
    record { size = c.in_ok-settle.ensures.size; low = omega (arith, c.loop-number.invariant.low); nothing = c.in_ok-settle.ensures.nothing; swept = swept }

pub returns-clause-reached : goal.returns-clause-reached
returns-clause-reached c =
    let zero : c.loop-number.number ≡ 0 = omega arith in
    sweep_ends _ _ _ _ (subst (λ n. IsSwept c.args.table.now.splits.items c.args.table.now.parts.items c.args.root n c.loop-number.marks.marked.items (λ m. ⊥))
    zero c.loop-number.invariant.swept)
