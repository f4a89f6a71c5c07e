use Rattle.std.proofs.Common.{◌≡◌, ℕ, ◌+◌, ◌<◌, get_or}
use Rattle.std.specs.declared.cmp.Ordering.TheVariants.{Less}
use Rattle.forest.specs.declared.rules.Rule.{Rule}
use Rattle.forest.specs.Orders.{rule_cmp}
use Rattle.forest.proofs.rules.is_ascending.Given as goal

-- each rule so far is above the one before it
abbrev pub invariant-loop-at : goal.invariant-loop-at
invariant-loop-at l = (k : ℕ) (d : Rule) → k + 1 < l.at → rule_cmp (get_or l.rules k d) (get_or l.rules (k + 1) d) ≡ Less
