-- The calls of a source or a sink in memory, some of which are to fail.
use Rattle.std.specs.Prelude.{ℕ, ◌+◌, ◌-◌, ◌^◌, min, List, Contains}
use Rattle.bench_io.specs.Faults.{count_after}

pub record Turns : Type 0 where
  -- the most bytes that a call moves
  pub most : ℕ
  -- the numbers of the calls that fail, from 0
  pub failing : List ℕ
  -- how many calls there were, which is the number of the next one
  pub calls : ℕ
  -- how many of them failed
  pub faults : ℕ

-- before the first call
abbrev pub new_turns : ℕ → List ℕ → Turns
new_turns most failing = record { most = most; failing = failing; calls = 0; faults = 0 }

-- the next call is one of those that fail
abbrev pub Fails : Turns → Type 0
Fails turns = Contains turns.failing turns.calls

-- one more call, up to a number beyond every number of a call that fails
abbrev pub calls_after : ℕ → ℕ
calls_after n = min (n + 1) (2 ^ 128 - 1)

-- after a call that did not fail
abbrev pub after_call : Turns → Turns
after_call turns = record turns { calls = calls_after turns.calls }

-- after a call that failed
abbrev pub after_failure : Turns → Turns
after_failure turns = record turns { calls = calls_after turns.calls; faults = count_after turns.faults }
