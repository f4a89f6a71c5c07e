-- What serves the commands of a run.
use Rattle.std.specs.Prelude.{Option, Some, None}
use Rattle.edit_log.specs.History.{Grammar}
use Rattle.version_store.specs.declared.bench.Bench.{Bench}
use Rattle.version_store.specs.Meaning.{BenchMeaning}
use Rattle.version_store.specs.Means.{bench_of}

-- the grammar after the commands so far, and the bench over which they ran; there is none where one of them was not answered
pub record ServerMeaning : Type 0 where
  pub grammar : Grammar
  pub bench : Option BenchMeaning

-- what the bench means, if there is one
abbrev pub bench_in : {C : Type 0} → Option (Bench C) → Option BenchMeaning
bench_in None = None
bench_in (Some bench) = Some (bench_of bench)

-- there is a bench, and this is so of it
abbrev pub HasBench : Option BenchMeaning → (BenchMeaning → Type 0) → Type 0
HasBench None P = ⊥
HasBench (Some bench) P = P bench
