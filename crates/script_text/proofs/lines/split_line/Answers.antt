use Rattle.script_text.proofs.LineSteps.{ended, line_ended, whole, line_whole}
use Rattle.script_text.proofs.lines.split_line.Goals as goal

pub returns-in-Some-clause-lines : goal.returns-in-Some-clause-lines
returns-in-Some-clause-lines c = ended c.args.bytes.now c.in-Some.len c.in-Some.ensures

pub returns-in-Some-clause-one_line : goal.returns-in-Some-clause-one_line
returns-in-Some-clause-one_line c = line_ended c.args.bytes.now c.in-Some.len c.in-Some.ensures

pub returns-in-None-clause-lines : goal.returns-in-None-clause-lines
returns-in-None-clause-lines c = whole c.args.bytes.now c.requires c.in-None.ensures

pub returns-in-None-clause-one_line : goal.returns-in-None-clause-one_line
returns-in-None-clause-one_line c = line_whole c.args.bytes.now c.in-None.ensures
