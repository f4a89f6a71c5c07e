use Rattle.pin_rule.proofs.hand.Hand.exchange.Given as goal

abbrev pub ghosts-exchange_as : goal.ghosts-exchange_as
ghosts-exchange_as g a = record { op = a.op }
