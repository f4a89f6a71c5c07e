use Rattle.item_sets.proofs.Insertions.{one_ascends}
use Rattle.gss_tests.proofs.telling.kernel_of.Goals as goal

pub of-requires : goal.of-requires
of-requires c = one_ascends _
