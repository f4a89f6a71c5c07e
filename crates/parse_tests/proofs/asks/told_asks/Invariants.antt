use Rattle.parse_tests.proofs.asks.told_asks.Given as goal

abbrev pub ghosts-told_alone : goal.ghosts-told_alone
ghosts-told_alone a = record { name = a.blank.name; parts = a.blank.parts }
