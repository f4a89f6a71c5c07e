use Rattle.std.proofs.Common.{◌<◌, sym, rules}
use Rattle.std.proofs.lemmas.Result.{err_from_is_err_and}
use Rattle.script_text.specs.declared.limits.TheConstants.{COMMAND_LIMIT}
use Rattle.script_text.specs.Scripts.{count_of, passes, adds, unknown, too_many}
use Rattle.script_text.specs.Seen.{sort_seen}
use Rattle.script_text.proofs.ScriptSteps.{command_refused}
use Rattle.script_text.proofs.progress.Progress.take.Goals as goal

pub returns-in-PassedOver-clause-takes : goal.returns-in-PassedOver-clause-takes
returns-in-PassedOver-clause-takes c = passes (sym c.in-PassedOver.ensures)

pub returns-in-Unknown-clause-refused : goal.returns-in-Unknown-clause-refused
returns-in-Unknown-clause-refused c = unknown (sym c.in-Unknown.ensures)

pub returns-then-is_full-clause-refused : goal.returns-then-is_full-clause-refused
returns-then-is_full-clause-refused c = too_many (sort_seen c.in-Command.ask) (sym c.in-Command.ensures) (search rules)

pub returns-in_err-command-clause-refused : goal.returns-in_err-command-clause-refused
returns-in_err-command-clause-refused c =
    let p = err_from_is_err_and c.from_residual.result c.from_residual.ensures.1 in
    let room : count_of c.args.self.now < COMMAND_LIMIT = search rules in
    rw (p.1, p.2) (command_refused c.args.self.now c.args.line.now (sort_seen c.in-Command.ask) _ c.in-Command.ensures room c.in_err-command.ensures.refused)

pub returns-clause-takes : goal.returns-clause-takes
returns-clause-takes c =
    let room : count_of c.args.self.now < COMMAND_LIMIT = search rules in
    rw c.in_ok-add.ensures (adds (sort_seen c.in-Command.ask) c.in_ok-command.command (sym c.in-Command.ensures) room c.in_ok-command.ensures.spells)
