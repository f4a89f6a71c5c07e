use Rattle.isg_states_tests.proofs.states.expansion_of.Given as goal

abbrev pub ghosts-expanded : goal.ghosts-expanded
ghosts-expanded a = record { name = a.blank.name; parts = a.blank.parts }
