use Rattle.std.proofs.Common.{sym, subst}
use Rattle.std.specs.Prelude.{IfOk}
use Rattle.script_text.specs.declared.command.Command.{Command}
use Rattle.version_store.specs.Means.{bench_of}
use Rattle.sections.specs.Recording.{AddsSteps, RecordsCommand}
use Rattle.sections.proofs.alone.run_alone.Goals as goal

pub returns-in-Stats-clause-serves : goal.returns-in-Stats-clause-serves
returns-in-Stats-clause-serves g c = c.count_alone.ensures.serves c.args.crew.now c.requires.log

pub returns-in-Tokens-clause-records : goal.returns-in-Tokens-clause-records
returns-in-Tokens-clause-records g c =
    let old = bench_of c.args.bench in
    subst
    (λ (command : Command). IfOk c.scan_alone.result (λ alone.
    AddsSteps old (bench_of alone.bench) (RecordsCommand old.sizes old.log c.args.crew.now command alone.reply)))
    (sym c.in-Tokens.is) c.scan_alone.ensures.records
