-- What a source in memory has left, and what a sink in memory has taken.
use Rattle.std.specs.Prelude.{ℕ, List}
use Rattle.bench_io.specs.Turns.{Turns}

pub record Supply : Type 0 where
  pub left : List ℕ
  pub turns : Turns

pub record Intake : Type 0 where
  pub bytes : List ℕ
  pub turns : Turns
