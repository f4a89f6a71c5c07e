use Rattle.item_sets.proofs.Kernels.{kernel_items}
use Rattle.item_sets.proofs.laws.kernels_are_items.Goals as goal

pub returns : goal.returns
returns c = kernel_items
