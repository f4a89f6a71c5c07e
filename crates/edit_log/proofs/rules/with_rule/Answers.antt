use Rattle.std.proofs.Common.{◌++◌, ◌∷◌, [], sym, ap, subst, ◌∙◌}
use Rattle.std.specs.List.Sorted.{IsStrictlySortedBy}
use Rattle.forest.specs.declared.rules.Rule.{Rule}
use Rattle.forest.specs.Orders.{rule_cmp}
use Rattle.edit_log.proofs.PlainLists.{sorted_push}
use Rattle.edit_log.proofs.rules.with_rule.Goals as goal

pub invariant_of-result : goal.invariant_of-result
invariant_of-result c =
    let all = c.from_vec.ensures ∙ c.push_in-rules.ensures.rules ∙ ap (λ rules. rules ++ c.args.live ∷ []) c.into_vec.ensures in
    record {
      ascending = subst (IsStrictlySortedBy rule_cmp) (sym all) (sorted_push (λ (r : Rule). r.number.0) c.args.rules.rules c.args.live c.requires.last
          c.args.rules.ascending);
    }
