use Rattle.plain_chart.proofs.PartLists.{below_none, below_more, below_same, below_all}
use Rattle.plain_chart.proofs.TableLemmas.{read_is}
use Rattle.plain_chart.proofs.reach.add_below.Goals as goal
use Rattle.plain_chart.proofs.reach.add_below.Goals.{then-is_same+in_ok-add_parts, else-is_same}

pub loop-rule-init : goal.loop-rule-init
loop-rule-init c = below_none _ _ _ _ _

pub loop-rule-preserved : goal.loop-rule-preserved
loop-rule-preserved c =
    let there = read_is c.args.rules.now c.loop-rule.rule-index c.rule-item.result c.rule-item.is c.loop-rule-test.true in
    elim c.if-is_same.branch [
      | then-is_same+in_ok-add_parts w ↦
          rw w.reached-is (below_more _ _ _ _ _ c.rule-item.result _ _ _ there (c.is_same.ensures.0 w.if-is_same.true) c.loop-rule.invariant
          (rw w.as_slice.ensures at w.in_ok-add_parts.ensures))
      | else-is_same w ↦ rw w.reached-is (below_same _ _ _ _ _ c.rule-item.result _ _ there (λ e. let yes' = c.is_same.ensures.1 e in let no' =
          w.if-is_same.false in cc) c.loop-rule.invariant)
    ]

pub returns : goal.returns
returns c = below_all _ _ _ _ _ _ _ c.loop-rule-test.false c.loop-rule.invariant
