use Rattle.std.proofs.Common.{◌<◌, arith}
use Rattle.plain_chart.proofs.CutLists.{front_more, front_same, front_none, front_all, first_rest}
use Rattle.plain_chart.proofs.Places.{bit_clear}
use Rattle.plain_chart.proofs.cuts.+cuts_of.Goals as goal
use Rattle.plain_chart.proofs.cuts.+cuts_of.Goals.{then-ahead-middle+then-is_known+in_ok-below-in-len1-up+in_ok-add_before-in-len1-up, else-ahead-middle}
use Rattle.plain_chart.proofs.cuts.+cuts_of.Goals.{else-ahead-middle-via-then-ahead-middle+else-is_known, else-ahead-middle-via-else-ahead-middle}
use Rattle.plain_chart.specs.declared.limits.TheConstants.{PLACES}

pub loop-middle-init : goal.loop-middle-init
loop-middle-init t c = rw c.new-found.ensures.items (front_none _ _ _ _ _ _)

pub loop-middle-preserved : goal.loop-middle-preserved
loop-middle-preserved t c = elim c.if-ahead-middle.branch [
  | then-ahead-middle+then-is_known+in_ok-below-in-len1-up+in_ok-add_before-in-len1-up w ↦
      rw (w.found-is, w.in_ok-add_before-in-len1-up.ensures, w.as_slice.ensures.value)
      (front_more _ _ _ _ _ _ _ _ _ c.loop-middle.invariant (w.is_known.ensures.0 w.if-is_known.true) (omega arith)
      (omega arith) w.in_ok-below-in-len1-up.ensures)
  | else-ahead-middle w ↦ elim w.else-ahead-middle.branch [
    | else-ahead-middle-via-then-ahead-middle+else-is_known v ↦ rw w.found-is (front_same _ _ _ _ _ _ _ _ c.loop-middle.invariant (λ k more. let yes' =
        v.is_known.ensures.1 k in let no' = v.if-is_known.false in cc))
    | else-ahead-middle-via-else-ahead-middle v ↦
        let few : c.loop-middle.middle < PLACES = omega (arith, c.requires.ends) in
        rw w.found-is (front_same _ _ _ _ _ _ _ _ c.loop-middle.invariant
        (λ k more. bit_clear c.sources-ahead.result c.loop-middle.middle v.if-ahead-middle.false
        ((c.sources-ahead.ensures c.loop-middle.middle few).1 more)))
  ]
]

pub returns-after-loop-middle : goal.returns-after-loop-middle
returns-after-loop-middle t c =
    let all = front_all _ _ _ _ _ _ _ _ c.loop-middle.invariant (omega arith) in
    rw (first_rest c.args.right.now (record { 0 = 0 }) c.in-len1-up.len_at_least) all
