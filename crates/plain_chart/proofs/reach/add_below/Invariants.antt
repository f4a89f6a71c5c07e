use Rattle.plain_chart.specs.Parts.{Adds}
use Rattle.plain_chart.proofs.PartLists.{IsBelowFirst}
use Rattle.plain_chart.proofs.reach.add_below.Given as goal

abbrev pub invariant-loop-rule : goal.invariant-loop-rule
invariant-loop-rule l = Adds l.known (IsBelowFirst l.rules l.tokens l.known l.span l.rule-index) l.fn.reached l.reached
