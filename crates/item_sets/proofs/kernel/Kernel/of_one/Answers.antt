use Rattle.item_sets.proofs.Insertions.{one_ascends}
use Rattle.item_sets.proofs.kernel.Kernel.of_one.Goals as goal

pub invariant_of-result : goal.invariant_of-result
invariant_of-result c = rw (c.push_reserved.ensures.items, c.new-items.ensures.items) (one_ascends c.args.item)
