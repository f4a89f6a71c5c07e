use Rattle.std.proofs.Common.{refl, subst}
use Rattle.edit_log.specs.History.{Grammar}
use Rattle.script_text.specs.declared.command.Command.TheVariants.{Parse}
use Rattle.version_store.specs.Means.{bench_of, lone_of}
use Rattle.replies.proofs.ReplySteps.{parsed_reply}
use Rattle.sections.specs.Recording.{ShowsText, shown_for}
use Rattle.sections.proofs.ShownTexts.{text_records}
use Rattle.sections.proofs.alone.parse_alone.Goals as goal

pub returns-clause-replied : goal.returns-clause-replied
returns-clause-replied g c =
    parsed_reply c.crew.inside.grammar.grammar c.args.crew.now (Parse c.args.text.now) c.args.text.now c.bytes.result.now c.version-version.result
    c.in-Ok-parsed.done.1 c.crew.view_is refl c.bytes.ensures c.version-version.ensures.version c.in-Ok-parsed.ensures.outcome

pub returns-clause-records : goal.returns-clause-records
returns-clause-records g c =
    let page = lone_of c.in-Ok.page in
    let next = lone_of c.in-Ok-parsed.done.0 in
    let outcome = c.in-Ok-parsed.done.1 in
    let by_bytes : ShowsText page next c.crew.inside.grammar.grammar (shown_for c.crew.inside.grammar.grammar c.args.text.now outcome) =
    subst (λ text. ShowsText page next c.crew.inside.grammar.grammar (shown_for c.crew.inside.grammar.grammar text outcome)) c.bytes.ensures
    c.in-Ok-parsed.ensures.shown in
    text_records (bench_of c.args.bench) (bench_of c.unpin-2.result) page next c.args.crew.now (shown_for c.args.crew.now c.args.text.now outcome)
    c.in-Ok.ensures.pins
    (subst (λ (grammar : Grammar). ShowsText page next grammar (shown_for grammar c.args.text.now outcome)) c.crew.view_is by_bytes)
    c.unpin-2.ensures
