use Rattle.parse_tests.proofs.families.compare_rules.Given as goal

abbrev pub ghosts-compare_grammar : goal.ghosts-compare_grammar
ghosts-compare_grammar a = record { name = a.blank.name; parts = a.blank.parts }
