use Rattle.version_store.specs.Means.{bench_of, StandsAt}
use Rattle.sections.proofs.HeldRows.{CountsTo}
use Rattle.sections.proofs.holding.count_held.Given as goal

abbrev pub invariant-loop-place : goal.invariant-loop-place
invariant-loop-place l = CountsTo (bench_of l.fn.bench) (bench_of l.bench) (StandsAt l.fn.bench) (StandsAt l.bench) l.place l.held
