use Rattle.std.proofs.Common.{take}
use Rattle.plain_chart.specs.Nodes.{AreNodes}
use Rattle.plain_chart.proofs.nodes.nodes_of.Given as goal

abbrev pub invariant-loop-span : goal.invariant-loop-span
invariant-loop-span l = AreNodes l.rules.rules l.tokens (take l.span-index l.spans) l.nodes.items
