use Rattle.std.proofs.Common.{sym, rules}
use Rattle.script_text.specs.Commands.{bad_escape, too_long}
use Rattle.script_text.proofs.reading.read_line_text.Goals as goal

pub returns-in_default-clause-refused : goal.returns-in_default-clause-refused
returns-in_default-clause-refused c = bad_escape (sym (rw c.in_default.is at c.in_ok-text.ensures))

pub returns-then-len-gt-TEXT_LIMIT-clause-refused :
    goal.returns-then-len-gt-TEXT_LIMIT-clause-refused
returns-then-len-gt-TEXT_LIMIT-clause-refused c = too_long c.in-Some.text.items (sym (rw c.in-Some.is at c.in_ok-text.ensures)) (search rules)
