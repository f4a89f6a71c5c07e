use Rattle.std.proofs.Common.{inr, sym, subst, Contains}
use Rattle.std.specs.Cmp.{decided}
use Rattle.isg_states.specs.Sameness.{key_eq, key_eq-decides}
use Rattle.isg_states.specs.Expansion.{IsScanCost}
use Rattle.live_graph.specs.Answers.{ExpandsScan}
use Rattle.live_graph.proofs.KeptEntries.{stands_at}
use Rattle.live_graph.proofs.KeptAnswers.{is_answered, asks_again, not_asked, asks, holds}
use Rattle.live_graph.proofs.shared_kept.place_of_scan.Goals as goal
use Rattle.live_graph.proofs.shared_kept.place_of_scan.Goals.{In_ok-place}

pub returns-in-Some-clause-stands : goal.returns-in-Some-clause-stands
returns-in-Some-clause-stands g c =
    let s = stands_at key_eq (decided key_eq key_eq-decides) key_eq-decides c.args.kept.now.entries c.args.state.now c.in-Some.place (sym
    c.in-Some.ensures.index) in
    (s.value, s.at, c.requires.holds c.args.state.now s.value s.among)

pub returns-in-Some-clause-asks : goal.returns-in-Some-clause-asks
returns-in-Some-clause-asks g c =
    let s = stands_at key_eq (decided key_eq key_eq-decides) key_eq-decides c.args.kept.now.entries c.args.state.now c.in-Some.place (sym
    c.in-Some.ensures.index) in
    asks_again (IsScanCost c.args.grammar.now.grammar) c.args.kept.now.entries c.args.state.now c.args.steps.now s.asked

pub returns-in_err-reserve-clause-holds : goal.returns-in_err-reserve-clause-holds
returns-in_err-reserve-clause-holds g c = λ key answer there. c.requires.holds key answer (subst (λ list. Contains list (key, answer))
    c.reserve.ensures.entries there)

pub returns-in_err-answer-clause-holds : goal.returns-in_err-answer-clause-holds
returns-in_err-answer-clause-holds g c = λ key answer there. c.requires.holds key answer (subst (λ list. Contains list (key, answer))
    c.reserve.ensures.entries there)

pub returns-clause-stands : goal.returns-clause-stands
returns-clause-stands g c =
    let put = is_answered key_eq (decided key_eq key_eq-decides) key_eq-decides c.args.kept.now.entries c.reserve.new.self.entries
    c.insert_full.new.self.entries c.args.state.now c.in_ok-own.own c.in_ok-answer.answer c.in_ok-place.place c.reserve.ensures.entries
    c.in_ok-own.ensures.cases (sym c.in_default.ensures.index) c.in_ok-place.ensures.entries c.in_ok-place.ensures.index in
    (c.in_ok-answer.answer, put.at, c.in_ok-answer.ensures.expansion)

pub returns-clause-asks : goal.returns-clause-asks
returns-clause-asks g c =
    let put = is_answered key_eq (decided key_eq key_eq-decides) key_eq-decides c.args.kept.now.entries c.reserve.new.self.entries
    c.insert_full.new.self.entries c.args.state.now c.in_ok-own.own c.in_ok-answer.answer c.in_ok-place.place c.reserve.ensures.entries
    c.in_ok-own.ensures.cases (sym c.in_default.ensures.index) c.in_ok-place.ensures.entries c.in_ok-place.ensures.index in
    asks key_eq (decided key_eq key_eq-decides) key_eq-decides c.args.kept.now.entries c.insert_full.new.self.entries c.args.state.now
    c.in_ok-answer.answer c.in_ok-place.place put (IsScanCost c.args.grammar.now.grammar) c.args.steps.now _ c.in_ok-answer.ensures.pays

pub returns-clause-grows : goal.returns-clause-grows
returns-clause-grows g c =
    let put = is_answered key_eq (decided key_eq key_eq-decides) key_eq-decides c.args.kept.now.entries c.reserve.new.self.entries
    c.insert_full.new.self.entries c.args.state.now c.in_ok-own.own c.in_ok-answer.answer c.in_ok-place.place c.reserve.ensures.entries
    c.in_ok-own.ensures.cases (sym c.in_default.ensures.index) c.in_ok-place.ensures.entries c.in_ok-place.ensures.index in
    let new_key = not_asked key_eq (decided key_eq key_eq-decides) key_eq-decides c.args.kept.now.entries c.insert_full.new.self.entries c.args.state.now
    c.in_ok-answer.answer c.in_ok-place.place put in
    inr (c.in_ok-answer.answer, new_key, put.entries, c.in_ok-answer.ensures.came)

pub returns-clause-holds : goal.returns-clause-holds
returns-clause-holds g c =
    let put = is_answered key_eq (decided key_eq key_eq-decides) key_eq-decides c.args.kept.now.entries c.reserve.new.self.entries
    c.insert_full.new.self.entries c.args.state.now c.in_ok-own.own c.in_ok-answer.answer c.in_ok-place.place c.reserve.ensures.entries
    c.in_ok-own.ensures.cases (sym c.in_default.ensures.index) c.in_ok-place.ensures.entries c.in_ok-place.ensures.index in
    holds key_eq (decided key_eq key_eq-decides) key_eq-decides c.args.kept.now.entries c.insert_full.new.self.entries c.args.state.now
    c.in_ok-answer.answer c.in_ok-place.place put (ExpandsScan c.args.grammar.now.grammar) c.in_ok-answer.ensures.expansion c.requires.holds
