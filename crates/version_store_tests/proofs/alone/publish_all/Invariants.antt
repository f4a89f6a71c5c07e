use Rattle.slot_store.specs.Means.{means_of}
use Rattle.version_store_tests.specs.Users.{IsSamePage}
use Rattle.version_store_tests.proofs.alone.publish_all.Given as goal

abbrev pub invariant-loop-at : goal.invariant-loop-at
invariant-loop-at l = IsSamePage (means_of l.fn.page) (means_of l.page)
