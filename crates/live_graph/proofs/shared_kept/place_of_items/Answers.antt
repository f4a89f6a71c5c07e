use Rattle.std.proofs.Common.{inr, sym, subst, Contains}
use Rattle.std.specs.Cmp.Lexicographic.{pointwise, lists_equiv}
use Rattle.item_sets.specs.Orders.{item_eq, item_equiv}
use Rattle.item_sets.specs.Expansions.{IsCost}
use Rattle.live_graph.specs.Answers.{ExpandsKernel}
use Rattle.live_graph.proofs.SameKernels.{kernel_eq-decides}
use Rattle.live_graph.proofs.KeptEntries.{stands_at}
use Rattle.live_graph.proofs.KeptAnswers.{is_answered, asks_again, not_asked, asks, holds}
use Rattle.live_graph.proofs.shared_kept.place_of_items.Goals as goal
use Rattle.live_graph.proofs.shared_kept.place_of_items.Goals.{In_ok-place}

pub returns-in-Some-clause-stands : goal.returns-in-Some-clause-stands
returns-in-Some-clause-stands g c =
    let s = stands_at (pointwise item_eq) (lists_equiv item_equiv) kernel_eq-decides c.args.kept.now.entries c.args.kernel.now c.in-Some.place (sym
    c.in-Some.ensures.index) in
    (s.value, s.at, c.requires.holds c.args.kernel.now s.value s.among)

pub returns-in-Some-clause-asks : goal.returns-in-Some-clause-asks
returns-in-Some-clause-asks g c =
    let s = stands_at (pointwise item_eq) (lists_equiv item_equiv) kernel_eq-decides c.args.kept.now.entries c.args.kernel.now c.in-Some.place (sym
    c.in-Some.ensures.index) in
    asks_again (IsCost c.args.grammar.now.grammar.rules) c.args.kept.now.entries c.args.kernel.now c.args.steps.now s.asked

pub returns-in_err-reserve-clause-holds : goal.returns-in_err-reserve-clause-holds
returns-in_err-reserve-clause-holds g c = λ key answer there. c.requires.holds key answer (subst (λ list. Contains list (key, answer))
    c.reserve.ensures.entries there)

pub returns-in_err-answer-clause-holds : goal.returns-in_err-answer-clause-holds
returns-in_err-answer-clause-holds g c = λ key answer there. c.requires.holds key answer (subst (λ list. Contains list (key, answer))
    c.reserve.ensures.entries there)

pub returns-clause-stands : goal.returns-clause-stands
returns-clause-stands g c =
    let put = is_answered (pointwise item_eq) (lists_equiv item_equiv) kernel_eq-decides c.args.kept.now.entries c.reserve.new.self.entries
    c.insert_full.new.self.entries c.args.kernel.now c.in_ok-own.own c.in_ok-answer.answer c.in_ok-place.place c.reserve.ensures.entries
    c.in_ok-own.ensures.cases (sym c.in_default.ensures.index) c.in_ok-place.ensures.entries c.in_ok-place.ensures.index in
    (c.in_ok-answer.answer, put.at, c.in_ok-answer.ensures.expansion)

pub returns-clause-asks : goal.returns-clause-asks
returns-clause-asks g c =
    let put = is_answered (pointwise item_eq) (lists_equiv item_equiv) kernel_eq-decides c.args.kept.now.entries c.reserve.new.self.entries
    c.insert_full.new.self.entries c.args.kernel.now c.in_ok-own.own c.in_ok-answer.answer c.in_ok-place.place c.reserve.ensures.entries
    c.in_ok-own.ensures.cases (sym c.in_default.ensures.index) c.in_ok-place.ensures.entries c.in_ok-place.ensures.index in
    asks (pointwise item_eq) (lists_equiv item_equiv) kernel_eq-decides c.args.kept.now.entries c.insert_full.new.self.entries c.args.kernel.now
    c.in_ok-answer.answer c.in_ok-place.place put (IsCost c.args.grammar.now.grammar.rules) c.args.steps.now _ c.in_ok-answer.ensures.pays

pub returns-clause-grows : goal.returns-clause-grows
returns-clause-grows g c =
    let put = is_answered (pointwise item_eq) (lists_equiv item_equiv) kernel_eq-decides c.args.kept.now.entries c.reserve.new.self.entries
    c.insert_full.new.self.entries c.args.kernel.now c.in_ok-own.own c.in_ok-answer.answer c.in_ok-place.place c.reserve.ensures.entries
    c.in_ok-own.ensures.cases (sym c.in_default.ensures.index) c.in_ok-place.ensures.entries c.in_ok-place.ensures.index in
    let new_key = not_asked (pointwise item_eq) (lists_equiv item_equiv) kernel_eq-decides c.args.kept.now.entries c.insert_full.new.self.entries
    c.args.kernel.now
    c.in_ok-answer.answer c.in_ok-place.place put in
    inr (c.in_ok-answer.answer, new_key, put.entries, c.in_ok-answer.ensures.came)

pub returns-clause-holds : goal.returns-clause-holds
returns-clause-holds g c =
    let put = is_answered (pointwise item_eq) (lists_equiv item_equiv) kernel_eq-decides c.args.kept.now.entries c.reserve.new.self.entries
    c.insert_full.new.self.entries c.args.kernel.now c.in_ok-own.own c.in_ok-answer.answer c.in_ok-place.place c.reserve.ensures.entries
    c.in_ok-own.ensures.cases (sym c.in_default.ensures.index) c.in_ok-place.ensures.entries c.in_ok-place.ensures.index in
    holds (pointwise item_eq) (lists_equiv item_equiv) kernel_eq-decides c.args.kept.now.entries c.insert_full.new.self.entries c.args.kernel.now
    c.in_ok-answer.answer c.in_ok-place.place put (ExpandsKernel c.args.grammar.now.grammar) c.in_ok-answer.ensures.expansion c.requires.holds
