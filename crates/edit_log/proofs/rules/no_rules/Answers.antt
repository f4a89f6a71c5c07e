use Rattle.std.proofs.Common.{sym, subst, ◌∙◌}
use Rattle.std.specs.List.Sorted.{IsStrictlySortedBy}
use Rattle.forest.specs.Orders.{rule_cmp}
use Rattle.edit_log.proofs.rules.no_rules.Goals as goal

pub invariant_of-result : goal.invariant_of-result
unfolding IsStrictlySortedBy
invariant_of-result c = record { ascending = subst (IsStrictlySortedBy rule_cmp) (sym (c.from_vec.ensures ∙ c.new.ensures.items)) tt }
