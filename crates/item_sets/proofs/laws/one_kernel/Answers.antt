use Rattle.item_sets.proofs.Kernels.{one_list}
use Rattle.item_sets.proofs.laws.one_kernel.Goals as goal

pub returns : goal.returns
returns c = λ rules g a b is also. one_list is also (λ item. (λ m. m, λ m. m))
