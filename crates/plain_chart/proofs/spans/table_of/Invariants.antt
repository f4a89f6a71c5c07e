use Rattle.std.proofs.Common.{ℕ, ◌<◌}
use Rattle.plain_chart.specs.Tables.{IsTableAt}
use Rattle.plain_chart.proofs.spans.table_of.Given as goal

-- no table so far is the symbol's
abbrev pub invariant-loop-at : goal.invariant-loop-at
invariant-loop-at l = (k : ℕ) → k < l.at → IsTableAt l.tables l.symbol k → ⊥
