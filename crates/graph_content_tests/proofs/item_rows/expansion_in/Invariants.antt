use Rattle.graph_content_tests.proofs.item_rows.expansion_in.Given as goal

abbrev pub ghosts-expanded : goal.ghosts-expanded
ghosts-expanded a = record { name = a.blank.name; parts = a.blank.parts }
