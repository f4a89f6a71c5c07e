use Rattle.isg_scan_tests.proofs.scans.told_scan.Given as goal

abbrev pub ghosts-scanned : goal.ghosts-scanned
ghosts-scanned a = record { name = a.blank.name; parts = a.blank.parts }
