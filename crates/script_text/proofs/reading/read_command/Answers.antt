use Rattle.std.proofs.lemmas.Result.{err_from_is_err_and}
use Rattle.script_text.specs.Commands.{a_text, a_scan, a_count}
use Rattle.script_text.proofs.CommandLaws.{text_refused, scan_refused}
use Rattle.script_text.proofs.reading.read_command.Goals as goal

pub returns-in_err-read_line_text-in-Parse-clause-refused :
    goal.returns-in_err-read_line_text-in-Parse-clause-refused
returns-in_err-read_line_text-in-Parse-clause-refused c =
    let p = err_from_is_err_and c.from_residual.result c.from_residual.ensures.1 in
    rw (p.1, p.2, c.in-Parse.is) (text_refused c.in-Parse.written.now c.args.line.now _ c.in_err-read_line_text-in-Parse.ensures.refused)

pub returns-in_ok-read_line_text-in-Parse-clause-spells :
    goal.returns-in_ok-read_line_text-in-Parse-clause-spells
returns-in_ok-read_line_text-in-Parse-clause-spells c = rw c.in-Parse.is (a_text c.in_ok-read_line_text-in-Parse.ensures.spells)

pub returns-in_err-read_line_text-in-Tokens-clause-refused :
    goal.returns-in_err-read_line_text-in-Tokens-clause-refused
returns-in_err-read_line_text-in-Tokens-clause-refused c =
    let p = err_from_is_err_and c.from_residual-in_err-read_line_text-in-Tokens.result c.from_residual-in_err-read_line_text-in-Tokens.ensures.1 in
    rw (p.1, p.2, c.in-Tokens.is) (scan_refused c.in-Tokens.written.now c.args.line.now _ c.in_err-read_line_text-in-Tokens.ensures.refused)

pub returns-in_ok-read_line_text-in-Tokens-clause-spells :
    goal.returns-in_ok-read_line_text-in-Tokens-clause-spells
returns-in_ok-read_line_text-in-Tokens-clause-spells c = rw c.in-Tokens.is (a_scan c.in_ok-read_line_text-in-Tokens.ensures.spells)

pub returns-in-Stats-clause-spells : goal.returns-in-Stats-clause-spells
returns-in-Stats-clause-spells c = rw c.in-Stats.is a_count
