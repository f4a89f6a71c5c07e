use Rattle.pin_rule.proofs.hand.Hand.load_at.Given as goal

abbrev pub ghosts-load_as : goal.ghosts-load_as
ghosts-load_as g a = record { op = a.op }
