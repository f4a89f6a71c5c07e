use Rattle.item_sets.proofs.Kernels.{start_list}
use Rattle.item_sets.proofs.laws.start_is_kernel.Goals as goal

pub returns : goal.returns
returns c = start_list
