use Rattle.std.proofs.Common.{◌≡◌, ℕ, ◌<◌, slice_get, Some}
use Rattle.forest.specs.declared.rules.Rule.{Rule}
use Rattle.plain_chart.proofs.is_left.Given as goal

-- no rule so far has the left side
abbrev pub invariant-loop-rule : goal.invariant-loop-rule
invariant-loop-rule l = (k : ℕ) (r : Rule) → k < l.rule-index → slice_get l.rules k ≡ Some r → r.left ≡ l.symbol → ⊥
