use Rattle.std.proofs.Common.{refl, subst}
use Rattle.edit_log.specs.History.{Grammar}
use Rattle.script_text.specs.declared.command.Command.TheVariants.{Tokens}
use Rattle.version_store.specs.Means.{bench_of, lone_of}
use Rattle.replies.proofs.ReplySteps.{scanned_reply}
use Rattle.sections.specs.Held.{ScansKey}
use Rattle.sections.specs.Recording.{ShowsText}
use Rattle.sections.proofs.ShownTexts.{text_records}
use Rattle.sections.proofs.alone.scan_alone.Goals as goal

pub returns-clause-replied : goal.returns-clause-replied
returns-clause-replied g c =
    scanned_reply c.crew.inside.grammar.grammar c.args.crew.now (Tokens c.args.text.now) c.args.text.now c.bytes.result.now c.version-version.result
    c.in-Ok-scanned.done.1 c.crew.view_is refl c.bytes.ensures c.version-version.ensures.version c.in-Ok-scanned.ensures.scanned

pub returns-clause-records : goal.returns-clause-records
returns-clause-records g c =
    let page = lone_of c.in-Ok.page in
    let next = lone_of c.in-Ok-scanned.done.0 in
    let by_bytes : ShowsText page next c.crew.inside.grammar.grammar (ScansKey c.crew.inside.grammar.grammar c.args.text.now) =
    subst (λ text. ShowsText page next c.crew.inside.grammar.grammar (ScansKey c.crew.inside.grammar.grammar text)) c.bytes.ensures
    c.in-Ok-scanned.ensures.shown in
    text_records (bench_of c.args.bench) (bench_of c.unpin-bench.result) page next c.args.crew.now (ScansKey c.args.crew.now c.args.text.now)
    c.in-Ok.ensures.pins
    (subst (λ (grammar : Grammar). ShowsText page next grammar (ScansKey grammar c.args.text.now)) c.crew.view_is by_bytes)
    c.unpin-bench.ensures
