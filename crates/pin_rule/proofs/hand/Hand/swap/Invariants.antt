use Rattle.pin_rule.proofs.hand.Hand.swap.Given as goal

abbrev pub ghosts-swap_as : goal.ghosts-swap_as
ghosts-swap_as g a = record { op = a.op }
