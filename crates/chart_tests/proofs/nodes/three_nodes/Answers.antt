use Rattle.std.proofs.Common.{rules, ◌≡◌, [], ◌∷◌, refl}
use Rattle.std.specs.List.Sorted.{IsStrictlySortedBy}
use Rattle.std.specs.declared.cmp.Ordering.TheVariants.{Less}
use Rattle.forest.specs.declared.nodes.Node.{Node}
use Rattle.forest.specs.Orders.{node_cmp}
use Rattle.chart_tests.proofs.nodes.three_nodes.Goals as goal

three : (x y z : Node) → node_cmp x y ≡ Less → node_cmp x z ≡ Less → node_cmp y z ≡ Less → IsStrictlySortedBy node_cmp (x ∷ y ∷ z ∷ [])
unfolding IsStrictlySortedBy
three x y z a b d = ((a, (b, tt)), ((d, tt), (tt, tt)))

pub invariant_of-result : goal.invariant_of-result
invariant_of-result c =
    let first = c.node.ensures in
    let second = c.node-2.ensures in
    let third = c.node-3.ensures in
    let items : c.from_vec.result ≡ c.node.result ∷ c.node-2.result ∷ c.node-3.result ∷ [] = search rules in
    let below : node_cmp c.node.result c.node-2.result ≡ Less = rw (first.0, first.1, first.2, second.0, second.1, second.2) refl in
    let lowest : node_cmp c.node.result c.node-3.result ≡ Less = rw (first.0, first.1, first.2, third.0, third.1, third.2) refl in
    let above : node_cmp c.node-2.result c.node-3.result ≡ Less = rw (second.0, second.1, second.2, third.0, third.1, third.2) refl in
    record { ascending = rw items (three c.node.result c.node-2.result c.node-3.result below lowest above) }
