use Rattle.sections_tests.proofs.lines.edit_of.Goals as goal

pub returns : goal.returns
returns c = c.in_ok-edit.ensures
