use Rattle.plain_chart.proofs.SplitLists.{AreFirst}
use Rattle.plain_chart.proofs.cuts.splits_of.Given as goal

abbrev pub invariant-loop-rule : goal.invariant-loop-rule
invariant-loop-rule l = AreFirst l.rules.rules l.tokens l.known l.span l.rule-index l.found.items
