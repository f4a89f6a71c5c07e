use Rattle.std.proofs.Common.{◌≤◌, length}
use Rattle.plain_chart.proofs.SplitLists.{first_none, first_same, first_more, first_all}
use Rattle.plain_chart.proofs.TableLemmas.{read_is}
use Rattle.plain_chart.proofs.cuts.splits_of.Goals as goal
use Rattle.plain_chart.proofs.cuts.splits_of.Goals.{then-is_same+in_ok-add_splits, else-is_same}

pub loop-rule-init : goal.loop-rule-init
loop-rule-init c = rw c.new-found.ensures.items (first_none _ _ _ _)

pub loop-rule-preserved : goal.loop-rule-preserved
loop-rule-preserved c =
    let there = rw c.as_slice-rule-items.ensures at (read_is c.as_slice-rule-items.result.now c.loop-rule.rule-index c.rule-item.result c.rule-item.is
    c.loop-rule-test.true) in
    elim c.if-is_same.branch [
      | then-is_same+in_ok-add_splits w ↦
          let added = w.in_ok-add_splits.ensures in
          rw (w.found-is, added.grown) (first_more _ _ _ _ _ _ c.loop-rule.invariant c.rule-item.result there c.args.rules.now.ascending
          (c.is_same.ensures.0 w.if-is_same.true) added.cuts added.exact)
      | else-is_same w ↦ rw w.found-is (first_same _ _ _ _ _ _ c.loop-rule.invariant c.rule-item.result there (λ e. let yes' =
          c.is_same.ensures.1 e in let no' = w.if-is_same.false in cc))
    ]

pub returns : goal.returns
returns c =
    let end : length c.args.rules.now.rules ≤ c.loop-rule.rule-index = rw c.as_slice-rule-items.ensures at c.loop-rule-test.false in
    first_all _ _ _ c.requires.whole _ _ _ c.requires.within.0 end c.loop-rule.invariant
