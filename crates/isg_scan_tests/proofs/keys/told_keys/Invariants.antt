use Rattle.isg_scan_tests.proofs.keys.told_keys.Given as goal

abbrev pub ghosts-told_asked : goal.ghosts-told_asked
ghosts-told_asked a = record { name = a.blank.name; parts = a.blank.parts }
