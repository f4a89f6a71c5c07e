use Rattle.plain_chart.proofs.NodeLists.{nodes_ascend, forest_is}
use Rattle.plain_chart.proofs.PartLists.{forest_ends, reached_same}
use Rattle.plain_chart.proofs.nodes.forest_of.Goals as goal

pub reached_spans-requires-clause-terminals : goal.reached_spans-requires-clause-terminals
reached_spans-requires-clause-terminals c = rw c.as_slice.ensures c.requires.terminals

pub nodes_of-requires-clause-within : goal.nodes_of-requires-clause-within
nodes_of-requires-clause-within c = λ s m. forest_ends (c.in_ok-reached.ensures.within s ((c.in_ok-spans.ensures.same s).0
    (rw c.as_slice-2.ensures.value at m)))

pub invariant_of-result : goal.invariant_of-result
invariant_of-result c = record {
  ascending = rw c.from_vec.ensures (nodes_ascend _ _ c.as_slice-2.result.now _ c.in_ok-nodes.ensures
      (rw c.as_slice-2.ensures.value c.in_ok-spans.ensures.ordered));
}

pub returns : goal.returns
returns c =
    let reached = reached_same _ _ _ _ (rw c.as_slice.ensures at c.in_ok-reached.ensures) c.in_ok-spans.ensures.same in
    forest_is _ _ c.as_slice-2.result.now _ c.requires.sentence (rw c.from_vec.ensures c.in_ok-nodes.ensures) (rw c.as_slice-2.ensures.value reached)
