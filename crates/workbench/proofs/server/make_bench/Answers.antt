use Rattle.std.proofs.Common.{IfOk, subst}
use Rattle.pin_rule.specs.declared.sizes.Sizes.{Sizes}
use Rattle.version_store.specs.Meaning.{IsNewBench}
use Rattle.version_store.specs.Means.{bench_of}
use Rattle.workbench.proofs.server.make_bench.Goals as goal

pub returns : goal.returns
returns c = subst (λ (z : Sizes). IfOk c.make.result (λ bench. IsNewBench z (bench_of bench))) c.full.ensures c.make.ensures
