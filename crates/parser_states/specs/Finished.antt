-- The reductions by finished rules, one after the other.
use Rattle.std.specs.Prelude.{ℕ, ◌==◌, not, Bool, true, false, List, length, Option, Some, None, if◌then◌else◌}
use Rattle.std.specs.List.{filter_map}
use Rattle.forest.specs.declared.rules.RuleId.{RuleId}
use Rattle.forest.specs.declared.rules.Rule.{Rule}
use Rattle.edit_log.specs.Lookups.{rule_of}
use Rattle.parser_states.specs.declared.reduction.Reduction.{Reduction}
use Rattle.parser_states.specs.Reductions.{reduction_by}

-- whether a right side of this length is one of those that are asked for, which are the empty ones or the others
abbrev pub is_wanted : Bool → ℕ → Bool
is_wanted true size = size == 0
is_wanted false size = not (size == 0)

abbrev pub reduction_told : Bool → Option Rule → Option Reduction
reduction_told empty None = None
reduction_told empty (Some r) = if is_wanted empty (length r.right) then Some (reduction_by r) else None

abbrev pub reductions_told : List Rule → Bool → List RuleId → List Reduction
reductions_told rules empty finished = filter_map (λ number. reduction_told empty (rule_of rules number)) finished
