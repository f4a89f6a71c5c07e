use Rattle.std.proofs.Common.{◌≡◌, Some, inr, ap, sym, ◌∙◌}
use Rattle.std.specs.Option.{is_some}
use Rattle.grammar_text.specs.declared.edit.Edit.TheVariants as edit
use Rattle.edit_log.specs.declared.refusal.Refusal.TheVariants.{NoMemory}
use Rattle.edit_log.specs.Verdict.{verdict}
use Rattle.edit_log.proofs.VerdictSteps.{rule_clash, rule_twin, rule_free, taken_by_room, refused_by_room, or_refused, some_seen}
use Rattle.edit_log.proofs.verdict.may_add_rule.Goals as goal

pub returns-then-is_some-clause-refused : goal.returns-then-is_some-clause-refused
returns-then-is_some-clause-refused c =
    inr (rule_clash c.args.grammar.now.grammar c.args.text.now (ap is_some (sym c.definition_named.ensures.found) ∙ some_seen c.definition_named.result
    ∙ sym c.is_some.ensures ∙ c.if-is_some.true) ∙ ap (λ r. Some r) (sym c.in_ok-clash.ensures))

pub returns-in-Some-clause-refused : goal.returns-in-Some-clause-refused
returns-in-Some-clause-refused c =
    inr (rule_twin c.args.grammar.now.grammar c.args.text.now c.in-Some.number (ap is_some (sym c.definition_named.ensures.found)
    ∙ some_seen c.definition_named.result ∙ sym c.is_some.ensures ∙ c.if-is_some.false) (sym c.number_of.ensures ∙ c.in-Some.is))

pub returns-clause-taken : goal.returns-clause-taken
returns-clause-taken c =
    let free = rule_free c.args.grammar.now.grammar c.args.text.now (ap is_some (sym c.definition_named.ensures.found) ∙ some_seen c.definition_named.result
    ∙ sym c.is_some.ensures ∙ c.if-is_some.false) (sym c.number_of.ensures ∙ c.in_default.is) in
    taken_by_room c.args.grammar.now.grammar (verdict c.args.grammar.now.grammar (edit.AddRule c.args.text.now)) c.check_room.result free
    c.check_room.ensures.taken

pub returns-clause-refused : goal.returns-clause-refused
returns-clause-refused c =
    let free = rule_free c.args.grammar.now.grammar c.args.text.now (ap is_some (sym c.definition_named.ensures.found) ∙ some_seen c.definition_named.result
    ∙ sym c.is_some.ensures ∙ c.if-is_some.false) (sym c.number_of.ensures ∙ c.in_default.is) in
    or_refused (verdict c.args.grammar.now.grammar (edit.AddRule c.args.text.now)) (λ e. e ≡ NoMemory) c.check_room.result
    (refused_by_room c.args.grammar.now.grammar (verdict c.args.grammar.now.grammar (edit.AddRule c.args.text.now)) c.check_room.result free
    c.check_room.ensures.refused)
