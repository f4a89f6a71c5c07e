use Rattle.std.proofs.Common.{option_map, ap, ◌∙◌}
use Rattle.edit_log.specs.Verdict.{verdict}
use Rattle.edit_log.specs.Replicas.{seen_of, of_kind, drops}
use Rattle.edit_log.proofs.VerdictSteps.{end_absent, end_there, of_this_kind, not_this_kind, taken_by_room, refused_by_room}
use Rattle.edit_log.proofs.verdict.may_end_definition.Goals as goal

pub returns-then-live-is_skip-clause-refused : goal.returns-then-live-is_skip-clause-refused
returns-then-live-is_skip-clause-refused c =
    let none = c.definition_named.ensures.kinds c.args.is_skip ∙ ap (λ o. of_kind c.args.is_skip (option_map (λ live. seen_of live.now) o)) c.in-Some.is
    ∙ not_this_kind c.args.is_skip (seen_of c.in-Some.live.now) c.if-live-is_skip.true in
    end_absent c.args.grammar.now.grammar c.args.is_skip c.args.name.now none

pub returns-else-live-is_skip-clause-taken : goal.returns-else-live-is_skip-clause-taken
returns-else-live-is_skip-clause-taken c =
    let found = c.definition_named.ensures.kinds c.args.is_skip ∙ ap (λ o. of_kind c.args.is_skip (option_map (λ live. seen_of live.now) o)) c.in-Some.is
    ∙ of_this_kind c.args.is_skip (seen_of c.in-Some.live.now) c.if-live-is_skip.false in
    let there = end_there c.args.grammar.now.grammar c.args.is_skip c.args.name.now (seen_of c.in-Some.live.now) found in
    taken_by_room c.args.grammar.now.grammar (verdict c.args.grammar.now.grammar (drops c.args.is_skip c.args.name.now)) c.check_room.result there
    c.check_room.ensures.taken

pub returns-else-live-is_skip-clause-refused : goal.returns-else-live-is_skip-clause-refused
returns-else-live-is_skip-clause-refused c =
    let found = c.definition_named.ensures.kinds c.args.is_skip ∙ ap (λ o. of_kind c.args.is_skip (option_map (λ live. seen_of live.now) o)) c.in-Some.is
    ∙ of_this_kind c.args.is_skip (seen_of c.in-Some.live.now) c.if-live-is_skip.false in
    let there = end_there c.args.grammar.now.grammar c.args.is_skip c.args.name.now (seen_of c.in-Some.live.now) found in
    refused_by_room c.args.grammar.now.grammar (verdict c.args.grammar.now.grammar (drops c.args.is_skip c.args.name.now)) c.check_room.result there
    c.check_room.ensures.refused

pub returns-in-None-clause-refused : goal.returns-in-None-clause-refused
returns-in-None-clause-refused c =
    let none = c.definition_named.ensures.kinds c.args.is_skip ∙ ap (λ o. of_kind c.args.is_skip (option_map (λ live. seen_of live.now) o)) c.in-None.is in
    end_absent c.args.grammar.now.grammar c.args.is_skip c.args.name.now none
