use Rattle.std.proofs.Common.{◌≡◌, ◌-◌, length, rules, slice_get, Some}
use Rattle.std.specs.declared.cmp.Ordering.TheVariants.{Less}
use Rattle.item_sets.specs.Orders.{item_cmp}
use Rattle.item_sets.proofs.Insertions.{behind_last}
use Rattle.item_sets.proofs.kernel.is_behind.Goals as goal

pub returns-in-Some : goal.returns-in-Some
returns-in-Some c = λ yes.
    let at : slice_get c.args.items.now (length c.args.items.now - 1) ≡ Some c.in-Some.last.now = search rules in
    let less : item_cmp c.in-Some.last.now c.args.item ≡ Less = search rules in
    behind_last c.args.item c.args.items.now c.requires c.in-Some.last.now at less
