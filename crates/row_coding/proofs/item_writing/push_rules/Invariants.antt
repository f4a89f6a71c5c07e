use Rattle.std.proofs.Common.{◌≡◌, ◌++◌, map, take, vec_capacity}
use Rattle.forest.specs.declared.rules.RuleId.{RuleId}
use Rattle.row_coding.proofs.item_writing.push_rules.Given as goal

abbrev pub invariant-loop-rule : goal.invariant-loop-rule
invariant-loop-rule l =
    (l.words.items ≡ l.initial.words.items ++ map (λ (rule : RuleId). rule.0) (take l.rule-index l.rules))
    × (vec_capacity l.words ≡ vec_capacity l.initial.words)
