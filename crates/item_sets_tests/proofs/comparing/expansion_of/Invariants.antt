use Rattle.item_sets_tests.proofs.comparing.expansion_of.Given as goal

abbrev pub ghosts-expanded : goal.ghosts-expanded
ghosts-expanded a = record { name = a.blank.name; parts = a.blank.parts }
