use Rattle.version_store.specs.Means.{lone_of}
use Rattle.version_store_soak.specs.Working.{StaysSeated}
use Rattle.version_store_soak.proofs.filling.publish_new.Given as goal

abbrev pub invariant-loop-new : goal.invariant-loop-new
invariant-loop-new l = StaysSeated (lone_of l.fn.page) (lone_of l.page)
