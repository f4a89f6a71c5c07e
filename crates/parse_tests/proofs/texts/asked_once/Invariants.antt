use Rattle.parse_tests.proofs.texts.asked_once.Given as goal

abbrev pub ghosts-asked_alone : goal.ghosts-asked_alone
ghosts-asked_alone a = record { name = a.blank.name; parts = a.blank.parts }
