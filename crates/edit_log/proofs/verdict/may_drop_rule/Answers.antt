use Rattle.std.proofs.Common.{not, ap, sym, ◌∙◌}
use Rattle.std.specs.Option.{is_some}
use Rattle.grammar_text.specs.declared.edit.Edit.TheVariants as edit
use Rattle.edit_log.specs.Verdict.{verdict}
use Rattle.edit_log.proofs.VerdictSteps.{rule_absent, rule_there, taken_by_room, refused_by_room}
use Rattle.edit_log.proofs.verdict.may_drop_rule.Goals as goal

pub returns-then-is_none-clause-refused : goal.returns-then-is_none-clause-refused
returns-then-is_none-clause-refused c = rule_absent c.args.grammar.now.grammar c.args.text.now (ap is_some (sym c.number_of.ensures) ∙ c.is_none.ensures
    ∙ ap not c.if-is_none.true)

pub returns-clause-taken : goal.returns-clause-taken
returns-clause-taken c =
    let there = rule_there c.args.grammar.now.grammar c.args.text.now (ap is_some (sym c.number_of.ensures) ∙ c.is_none.ensures ∙ ap not c.if-is_none.false) in
    taken_by_room c.args.grammar.now.grammar (verdict c.args.grammar.now.grammar (edit.DropRule c.args.text.now)) c.check_room.result there
    c.check_room.ensures.taken

pub returns-clause-refused : goal.returns-clause-refused
returns-clause-refused c =
    let there = rule_there c.args.grammar.now.grammar c.args.text.now (ap is_some (sym c.number_of.ensures) ∙ c.is_none.ensures ∙ ap not c.if-is_none.false) in
    refused_by_room c.args.grammar.now.grammar (verdict c.args.grammar.now.grammar (edit.DropRule c.args.text.now)) c.check_room.result there
    c.check_room.ensures.refused
