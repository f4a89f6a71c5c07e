use Rattle.std.proofs.Common.{◌<◌, length, ◌∷◌, ◌++◌, [], ap, sym, ◌∙◌, arith}
use Rattle.isg_states.proofs.CandidateLists.{with_more, with_same}
use Rattle.isg_states.proofs.candidates.with_byte.Goals as goal
use Rattle.isg_states.proofs.candidates.with_byte.Goals.{then-has+in_ok-push, else-has}

pub loop-candidate-preserved : goal.loop-candidate-preserved
loop-candidate-preserved c =
    let within : c.loop-candidate.candidate-index < length c.args.candidates.now = omega arith in
    elim c.if-has.branch [
      | then-has+in_ok-push w ↦ rw (w.found-is, w.in_ok-push.ensures.items)
          (ap (λ t. t ++ c.candidate-item.result.mark ∷ []) c.loop-candidate.invariant
          ∙ sym (with_more c.args.candidates.now c.loop-candidate.candidate-index c.candidate-item.result c.args.byte within c.candidate-item.is
          (sym c.has.ensures ∙ w.if-has.true)))
      | else-has w ↦ rw w.found-is
          (c.loop-candidate.invariant
          ∙ sym (with_same c.args.candidates.now c.loop-candidate.candidate-index c.candidate-item.result c.args.byte within c.candidate-item.is
          (sym c.has.ensures ∙ w.if-has.false)))
    ]
