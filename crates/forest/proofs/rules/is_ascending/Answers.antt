use Rattle.std.proofs.Common.{rules, ◌≤◌, refl, arith}
use Rattle.forest.proofs.Orderings.{all_ascend, not_ascending}
use Rattle.forest.proofs.rules.is_ascending.Goals as goal

pub returns-then-ge : goal.returns-then-ge
returns-then-ge c =
    let above : c.index-rules-at-in-loop-at.result.number.0 ≤ c.index-rules-at.result.number.0 = search rules in (
      λ t. absurd cc,
      λ s. absurd (not_ascending c.args.rules.now c.loop-at.at c.index-rules-at.result c.index-rules-at-in-loop-at.result c.index-rules-at.is
          c.index-rules-at-in-loop-at.is (omega arith) (omega arith) above s),
    )

pub returns : goal.returns
returns c =
    let sorted = all_ascend c.args.rules.now c.loop-at.at (omega arith) c.loop-at.invariant in
    (λ t. sorted, λ s. refl)
