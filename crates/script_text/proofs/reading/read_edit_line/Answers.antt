use Rattle.std.proofs.Common.{rules}
use Rattle.std.proofs.lemmas.Result.{err_from_is_err_and}
use Rattle.script_text.specs.Commands.{an_edit, no_edit}
use Rattle.script_text.proofs.CommandLaws.{edit_refused}
use Rattle.script_text.proofs.reading.read_edit_line.Goals as goal

pub returns-in-Err : goal.returns-in-Err
returns-in-Err c = record { spells = tt; refused = no_edit (search rules) }

pub returns-in_err-check_expression-clause-refused : goal.returns-in_err-check_expression-clause-refused
returns-in_err-check_expression-clause-refused c =
    let p = err_from_is_err_and c.from_residual.result c.from_residual.ensures.1 in
    rw (p.1, p.2) (edit_refused c.args.line.now c.in-Ok.edit _ c.in-Ok.ensures.found.0 c.in-Ok.ensures.found.1 c.in_err-check_expression.ensures.refused)

pub returns-clause-spells : goal.returns-clause-spells
returns-clause-spells c = an_edit c.in-Ok.ensures.found.0 c.in-Ok.ensures.found.1 c.in_ok-check_expression.ensures.has
