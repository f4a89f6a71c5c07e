use Rattle.version_store.specs.Means.{bench_of}
use Rattle.version_store_soak.specs.Working.{HasSamePins}
use Rattle.version_store_soak.proofs.reading.read_rows.Given as goal

abbrev pub invariant-loop-place : goal.invariant-loop-place
invariant-loop-place l = HasSamePins (bench_of l.fn.bench) (bench_of l.bench)
