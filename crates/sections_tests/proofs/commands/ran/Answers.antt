use Rattle.version_store.specs.Means.{bench_of}
use Rattle.sections.proofs.EditedLogs.{formed_by_log}
use Rattle.sections_tests.proofs.Replies.{known_for}
use Rattle.sections_tests.proofs.commands.ran.Goals as goal

pub returns-clause-known : goal.returns-clause-known
returns-clause-known g c =
    known_for c.args.crew.now c.run_alone.new.crew c.args.command.now c.run_alone.result
    (formed_by_log (bench_of c.args.bench).log c.args.crew.now c.requires.log) c.run_alone.ensures.replied c.run_alone.ensures.next
