use Rattle.packed_spans.specs.Nodes.{AreNodesFor}
use Rattle.packed_spans.proofs.nodes.nodes_for.Given as goal

-- the nodes of the headers so far
abbrev pub invariant-loop-at : goal.invariant-loop-at
invariant-loop-at l = AreNodesFor l.table.spans.items l.table.splits.items l.table.parts.items l.headers l.at l.nodes.items
