use Rattle.std.proofs.Common.{◌<◌, arith}
use Rattle.plain_chart.proofs.CutLists.{first_rest}
use Rattle.plain_chart.proofs.Places.{bit_read, bit_clear}
use Rattle.plain_chart.proofs.PartLists.{adds_front_none, adds_front_more, adds_front_same, adds_front_all}
use Rattle.plain_chart.proofs.reach.+add_parts.Goals as goal
use Rattle.plain_chart.proofs.reach.+add_parts.Goals.{then-ahead-middle+then-is_known+in_ok-add_part-in-len1-up+in_ok-add_parts-in-len1-up, else-ahead-middle}
use Rattle.plain_chart.proofs.reach.+add_parts.Goals.{else-ahead-middle-via-then-ahead-middle+else-is_known, else-ahead-middle-via-else-ahead-middle}
use Rattle.plain_chart.specs.declared.limits.TheConstants.{PLACES}

pub loop-middle-init : goal.loop-middle-init
loop-middle-init t c = adds_front_none _ _ _ _ _ _ _

pub loop-middle-preserved : goal.loop-middle-preserved
loop-middle-preserved t c =
    let few : c.loop-middle.middle < PLACES = omega (arith, c.requires.ends) in
    elim c.if-ahead-middle.branch [
      | then-ahead-middle+then-is_known+in_ok-add_part-in-len1-up+in_ok-add_parts-in-len1-up w ↦
          let more = (c.sources-ahead.ensures c.loop-middle.middle few).0 (bit_read c.sources-ahead.result c.loop-middle.middle w.if-ahead-middle.true) in
          rw w.reached-is (adds_front_more _ _ _ _ _ _ c.loop-middle.middle _ _ _ _ (omega arith) (omega arith)
          (w.is_known.ensures.0 w.if-is_known.true) more c.loop-middle.invariant w.in_ok-add_part-in-len1-up.ensures w.in_ok-add_parts-in-len1-up.ensures)
      | else-ahead-middle w ↦ elim w.else-ahead-middle.branch [
        | else-ahead-middle-via-then-ahead-middle+else-is_known v ↦ rw w.reached-is (adds_front_same _ _ _ _ _ _ c.loop-middle.middle _ _ (λ k more. let yes' =
            v.is_known.ensures.1 k in let no' = v.if-is_known.false in cc) c.loop-middle.invariant)
        | else-ahead-middle-via-else-ahead-middle v ↦ rw w.reached-is (adds_front_same _ _ _ _ _ _ c.loop-middle.middle _ _
            (λ k more. bit_clear c.sources-ahead.result c.loop-middle.middle v.if-ahead-middle.false
            ((c.sources-ahead.ensures c.loop-middle.middle few).1 more)) c.loop-middle.invariant)
      ]
    ]

pub returns-after-loop-middle : goal.returns-after-loop-middle
returns-after-loop-middle t c =
    let all = adds_front_all _ _ _ _ _ _ _ _ _ (omega arith) c.loop-middle.invariant in
    rw (first_rest c.args.right.now (record { 0 = 0 }) c.in-len1-up.len_at_least) all
