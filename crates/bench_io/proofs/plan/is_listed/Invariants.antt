use Rattle.std.proofs.Common.{◌≡◌, ℕ, ◌<◌, get_or}
use Rattle.bench_io.proofs.plan.is_listed.Given as goal

-- no number so far is that of the call
abbrev pub invariant-loop-number : goal.invariant-loop-number
invariant-loop-number l = (k : ℕ) → k < l.number-index → get_or l.numbers k l.call ≡ l.call → ⊥
