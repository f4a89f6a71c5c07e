use Rattle.sections_tests.proofs.commands.told_command.Given as goal

abbrev pub ghosts-ran : goal.ghosts-ran
ghosts-ran a = record { name = a.blank.name; parts = a.blank.parts }
