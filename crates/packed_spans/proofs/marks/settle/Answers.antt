use Rattle.std.proofs.Common.{◌≡◌, ◌<◌, ◌⊎◌, ℕ, inl, inr, length, sym, ◌∙◌, ap, arith, Contains, slice_get, Some, true, false}
use Rattle.std.proofs.lemmas.Option.{slice_get_within}
use Rattle.std.proofs.lemmas.List.{length_push}
use Rattle.std.proofs.lemmas.List.Elements.{Contains-push, Contains-push_cases, Contains-append_left}
use Rattle.packed_spans.specs.Marks.{left}
use Rattle.packed_spans.proofs.Lists.{read_at}
use Rattle.packed_spans.proofs.Sweeping.{passed, turn, settled_more, sweep_rests}
use Rattle.packed_spans.proofs.marks.settle.Goals as goal

pub returns-then-not-index-clause-swept : goal.returns-then-not-index-clause-swept
returns-then-not-index-clause-swept c =
    let within : c.args.number < length c.args.marks.now.marked.items = omega arith in
    let was : slice_get c.args.marks.now.marked.items c.args.number ≡ Some false = read_at _ _ _ within c.index.ensures ∙ ap Some c.if-not-index.true in
    λ root s. passed _ _ root _ _ was s

pub loop-next-init : goal.loop-next-init
loop-next-init c =
    let within : c.args.number < length c.args.marks.now.marked.items = omega arith in
    let marked : slice_get c.args.marks.now.marked.items c.args.number ≡ Some true = read_at _ _ _ within c.index.ensures ∙ ap Some c.if-not-index.false in
    let marks = c.in_ok-mark_below.ensures in
    let none : length c.args.marks.now.waiting.items ≡ 0 = ap length c.requires.nothing in
    record {
      size = marks.size ∙ c.requires.size;
      waiting = λ n w. elim (marks.within n w) [ inl d ↦ absurd (omega (arith, none, d.1)) | inr m ↦ m ];
      swept = λ root s. settled_more _ _ root c.args.number c.args.number _ _ _ _ (λ n. n ≡ c.args.number) (turn _ _ root _ _ s) marked marks (λ n w. inl w);
    }

pub mark_below-requires-in-Some-clause-number : goal.mark_below-requires-in-Some-clause-number
mark_below-requires-in-Some-clause-number c =
    let there : Contains c.loop-next.marks.waiting.items c.in-Some.next = rw c.in-Some.ensures.items (Contains-push _ _) in
    let within = slice_get_within c.loop-next.marks.marked.items c.in-Some.next true (c.loop-next.invariant.waiting c.in-Some.next there) in
    omega (arith, within, c.loop-next.invariant.size)

pub loop-next-smaller : goal.loop-next-smaller
loop-next-smaller c =
    let longer = ap length c.in-Some.ensures.items in
    let more = length_push c.pop.new.self.items c.in-Some.next in
    let fewer : left c.mark_below-in-Some.new.marks.marked.items c.mark_below-in-Some.new.marks.waiting.items
    < left c.loop-next.marks.marked.items c.loop-next.marks.waiting.items =
    omega (arith, c.in_ok-mark_below-2.ensures.spends, longer, more) in
    fewer

pub loop-next-preserved : goal.loop-next-preserved
loop-next-preserved c =
    let there : Contains c.loop-next.marks.waiting.items c.in-Some.next = rw c.in-Some.ensures.items (Contains-push _ _) in
    let marks = c.in_ok-mark_below-2.ensures in
    let before = c.loop-next.invariant in
    let kept : (n : ℕ) → Contains c.pop.new.self.items n → Contains c.loop-next.marks.waiting.items n =
    λ n w. rw c.in-Some.ensures.items (Contains-append_left _ _ n w) in
    let cover : (n : ℕ) → Contains c.loop-next.marks.waiting.items n → (n ≡ c.in-Some.next) ⊎ Contains c.pop.new.self.items n =
    λ n w. elim (Contains-push_cases _ _ n (rw c.in-Some.ensures.items at w)) [ inl d ↦ inr d | inr e ↦ inl (sym e) ] in
    record {
      size = marks.size ∙ before.size;
      waiting = λ n w. elim (marks.within n w) [ inl d ↦ marks.keeps n (before.waiting n (kept n d)) | inr m ↦ m ];
      swept = λ root s. settled_more _ _ root c.in-Some.next c.args.number _ _ _ _ (Contains c.loop-next.marks.waiting.items) (before.swept root s)
          (before.waiting c.in-Some.next there) marks cover;
    }

pub returns-clause-swept : goal.returns-clause-swept
returns-clause-swept c =
    let none : length c.loop-next.marks.waiting.items ≡ 0 = omega (arith, c.in_default.ensures.cases) in
    λ root s. sweep_rests _ _ root _ _ c.loop-next.marks.waiting.items none (c.loop-next.invariant.swept root s)
