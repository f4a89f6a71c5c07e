use Rattle.pin_rule.proofs.hand.Hand.add.Given as goal

abbrev pub ghosts-add_as : goal.ghosts-add_as
ghosts-add_as g a = record { op = a.op }
