use Rattle.sections_tests.proofs.graphs.told_graph.Given as goal

abbrev pub ghosts-told_over : goal.ghosts-told_over
ghosts-told_over a = record { name = a.blank.name; parts = a.blank.parts }
