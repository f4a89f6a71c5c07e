use Rattle.std.proofs.Common.{◌≡◌, ◌≤◌, ◌++◌, ◌∷◌, [], length, get_or, Some, option_map, refl, sym, ap, ◌∙◌, subst, arith, not, eqb, false, true}
use mathlib.Core.Bool.{beq}
use Rattle.forest.specs.declared.rules.RuleId.{RuleId}
use Rattle.forest.specs.declared.rules.Rule.{Rule}
use Rattle.edit_log.specs.Lookups.{rule_of}
use Rattle.edit_log.specs.Facts.{IsRight}
use Rattle.edit_log.proofs.PlainLists.{each_contained, found}
use Rattle.parser_states.proofs.Told.{told_none, told_other, told_one}
use Rattle.parser_states.proofs.reduction.add_reductions.Goals as goal

pub loop-number-preserved : goal.loop-number-preserved
loop-number-preserved c =
    let numbers = c.args.finished.now in
    let i = c.loop-number.number-index in
    let number : RuleId = get_or numbers i (record { 0 = 0 }) in
    let r : Rule = c.in-Some.rule.now in
    let live : rule_of c.args.grammar.now.grammar.rules number ≡ Some r = sym c.rule.ensures ∙ ap (option_map (λ r. r.now)) c.in-Some.is in
    let size : length c.as_slice-length.result.now ≡ length r.right = ap length c.as_slice-length.ensures in
    told_one c.args.grammar.now.grammar.rules c.args.empty numbers i number c.loop-number-test.true refl c.args.reductions.now.items
    c.loop-number.reductions.items c.loop-number.invariant r c.push.new.self.items live
    (subst (λ n. not (beq (eqb n 0) c.args.empty) ≡ false) size c.if-length-empty.false)
    (c.in_ok-push.ensures.items ∙ ap (λ n. c.loop-number.reductions.items ++ (record { rule = r.number; left = r.left; length = n }) ∷ []) size)

pub loop-number-preserved-in_default : goal.loop-number-preserved-in_default
loop-number-preserved-in_default c =
    let numbers = c.args.finished.now in
    let i = c.loop-number.number-index in
    told_none c.args.grammar.now.grammar.rules c.args.empty numbers i (get_or numbers i (record { 0 = 0 })) c.loop-number-test.true refl
    c.args.reductions.now.items c.loop-number.reductions.items c.loop-number.invariant
    (sym c.rule.ensures ∙ ap (option_map (λ r. r.now)) c.in_default.is)

pub loop-number-preserved-then-length-empty : goal.loop-number-preserved-then-length-empty
loop-number-preserved-then-length-empty c =
    let numbers = c.args.finished.now in
    let i = c.loop-number.number-index in
    let r : Rule = c.in-Some.rule.now in
    told_other c.args.grammar.now.grammar.rules c.args.empty numbers i (get_or numbers i (record { 0 = 0 })) c.loop-number-test.true refl
    c.args.reductions.now.items c.loop-number.reductions.items c.loop-number.invariant r
    (sym c.rule.ensures ∙ ap (option_map (λ r. r.now)) c.in-Some.is)
    (subst (λ n. not (beq (eqb n 0) c.args.empty) ≡ true) (ap length c.as_slice-length.ensures) c.if-length-empty.true)

pub overflow_cast-length : goal.overflow_cast-length
overflow_cast-length c =
    let rules = c.args.grammar.now.grammar.rules in
    let number : RuleId = get_or c.args.finished.now c.loop-number.number-index (record { 0 = 0 }) in
    let r : Rule = c.in-Some.rule.now in
    let live : rule_of rules number ≡ Some r = sym c.rule.ensures ∙ ap (option_map (λ r. r.now)) c.in-Some.is in
    let right = each_contained (λ (q : Rule). IsRight c.args.grammar.now.grammar.symbols q.right) rules r c.requires.rights (found _ rules r live).there in
    let size : length c.as_slice-length.result.now ≡ length r.right = ap length c.as_slice-length.ensures in
    let short : length c.as_slice-length.result.now ≤ 16 = omega (arith, right.1, size) in
    omega arith
