use Rattle.std.proofs.Common.{◌≡◌, length, arith, subst}
use Rattle.std.proofs.lemmas.Option.{slice_get-get_or}
use Rattle.std.proofs.lemmas.List.Elements.{Contains-get_or}
use Rattle.packed_spans.specs.Nodes.{AreNodesFor}
use Rattle.packed_spans.proofs.NodeLists.{no_nodes, nodes_more}
use Rattle.packed_spans.proofs.nodes.nodes_for.Goals as goal

pub loop-at-init : goal.loop-at-init
loop-at-init c = rw c.in_ok-nodes.ensures.items (no_nodes _ _ _ _)

pub loop-at-preserved : goal.loop-at-preserved
loop-at-preserved c = rw c.in_ok-push.ensures.items (nodes_more _ _ _ _ _ _ _ _ (slice_get-get_or _ _ _ c.loop-at-test.true) c.in_ok-node_of.ensures
    c.loop-at.invariant)

pub node_of-requires-clause-number : goal.node_of-requires-clause-number
node_of-requires-clause-number c = c.requires.known _ (Contains-get_or _ _ _ c.loop-at-test.true)

pub returns : goal.returns
returns c =
    let whole : c.loop-at.at ≡ length c.args.headers.now = omega arith in
    subst (λ n. AreNodesFor c.args.table.now.spans.items c.args.table.now.splits.items c.args.table.now.parts.items c.args.headers.now n
    c.loop-at.nodes.items) whole c.loop-at.invariant
