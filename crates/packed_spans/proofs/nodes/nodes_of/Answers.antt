use Rattle.packed_spans.proofs.NodeLists.{header_known, nodes_sorted, nodes_whole}
use Rattle.packed_spans.proofs.nodes.nodes_of.Goals as goal

pub nodes_for-requires-clause-known : goal.nodes_for-requires-clause-known
nodes_for-requires-clause-known c = rw c.as_slice.ensures.value (header_known _ _ _ c.in_ok-headers.ensures.headers)

pub returns-clause-order : goal.returns-clause-order
returns-clause-order c =
    let made = rw c.as_slice.ensures.value at c.in_ok-nodes.ensures in
    nodes_sorted _ _ _ _ _ _ c.in_ok-headers.ensures.headers c.in_ok-headers.ensures.order made

pub returns-clause-nodes : goal.returns-clause-nodes
returns-clause-nodes c =
    let made = rw c.as_slice.ensures.value at c.in_ok-nodes.ensures in
    nodes_whole _ _ _ _ _ _ c.in_ok-headers.ensures.headers c.in_ok-headers.ensures.order made
