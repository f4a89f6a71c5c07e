use Rattle.pin_rule.proofs.hand.Hand.store_at.Given as goal

abbrev pub ghosts-store_as : goal.ghosts-store_as
ghosts-store_as g a = record { op = a.op }
