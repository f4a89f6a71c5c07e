use Rattle.std.proofs.Common.{◌≡◌, sum_by, length, ◌*◌, ◌≤◌, ◌^◌, take}
use Rattle.forest.proofs.forest.Forest.count_splits.Given as goal

abbrev pub invariant-loop-node : goal.invariant-loop-node
invariant-loop-node l = record {
  counted : l.count ≡ sum_by (λ node. length node.splits) (take l.node-index l.node-items);
  within : l.count ≤ l.node-index * 2 ^ 64;
}
