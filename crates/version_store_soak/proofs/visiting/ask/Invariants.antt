use Rattle.slot_store.specs.Means.{means_of}
use Rattle.version_store_soak.specs.Working.{StaysSeated}
use Rattle.version_store_soak.proofs.visiting.ask.Given as goal

abbrev pub invariant-loop-asked : goal.invariant-loop-asked
invariant-loop-asked l = StaysSeated (means_of l.fn.page) (means_of l.page)
