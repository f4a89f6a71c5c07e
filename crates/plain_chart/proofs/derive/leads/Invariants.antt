use Rattle.std.proofs.Common.{◌≡◌, ℕ, ◌<◌, ◌≤◌, true, slice_get, Some}
use Rattle.plain_chart.specs.Known.{IsKnownToDerive}
use Rattle.plain_chart.proofs.derive.leads.Given as goal

-- no place so far serves
abbrev pub invariant-loop-middle : goal.invariant-loop-middle
invariant-loop-middle l = (k : ℕ) → l.from ≤ k → k < l.middle → IsKnownToDerive l.tokens l.known l.symbol l.from k → slice_get l.ahead k ≡ Some true → ⊥
