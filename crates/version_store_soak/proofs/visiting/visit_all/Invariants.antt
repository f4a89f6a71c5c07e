use Rattle.slot_store.specs.Means.{pass_of}
use Rattle.version_store_soak.specs.Working.{IsBack}
use Rattle.version_store_soak.proofs.visiting.visit_all.Given as goal

abbrev pub invariant-loop-round : goal.invariant-loop-round
invariant-loop-round l = IsBack (pass_of l.fn.pass) (pass_of l.pass)
