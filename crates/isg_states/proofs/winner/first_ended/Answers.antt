use Rattle.std.proofs.Common.{◌<◌, ◌≤◌, length, sym, ◌∙◌, arith}
use Rattle.std.proofs.lemmas.Bool.{false≢true}
use Rattle.isg_states.proofs.Winners.{ended_same, ended_more, ended_all}
use Rattle.isg_states.proofs.winner.first_ended.Goals as goal
use Rattle.isg_states.proofs.winner.first_ended.Goals.{then-is_last, else-is_last}

pub loop-mark-preserved : goal.loop-mark-preserved
loop-mark-preserved c =
    let within : c.loop-mark.mark-index < length c.args.marks.now = omega arith in
    elim c.if-is_last.branch [
      | then-is_last w ↦ rw (w.winner-is, w.first_definition.ensures)
          (ended_more c.args.grammar.now.grammar c.args.marks.now c.loop-mark.mark-index _ _ within c.loop-mark.invariant
          (c.is_last.ensures.0 w.if-is_last.true))
      | else-is_last w ↦ rw w.winner-is
          (ended_same c.args.grammar.now.grammar c.args.marks.now c.loop-mark.mark-index _ _ within c.loop-mark.invariant
          (λ last. false≢true (sym w.if-is_last.false ∙ c.is_last.ensures.1 last)))
    ]

pub returns : goal.returns
returns c =
    let whole : length c.args.marks.now ≤ c.loop-mark.mark-index = omega arith in
    ended_all c.args.grammar.now.grammar c.args.marks.now c.loop-mark.mark-index c.loop-mark.winner whole c.loop-mark.invariant
