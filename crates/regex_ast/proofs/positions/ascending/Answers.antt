-- Each turn looks at the next number.
use Rattle.std.proofs.Common.{sym, ◌∙◌}
use Rattle.regex_ast.specs.Bytes.{has}
use Rattle.regex_ast.proofs.TableLemmas.{below_in, below_out}
use Rattle.regex_ast.proofs.positions.ascending.Goals as goal
use Rattle.regex_ast.proofs.positions.ascending.Goals.{then-has+in_ok-push, else-has}

pub loop-number-preserved : goal.loop-number-preserved
loop-number-preserved c = elim c.if-has.branch [
  | then-has+in_ok-push w ↦
      rw (w.numbers-is, w.in_ok-push.ensures.items, c.loop-number.invariant) (sym (below_in (has c.args.set.now) c.loop-number.number (sym c.has.ensures
      ∙ w.if-has.true)))
  | else-has w ↦
      rw (w.numbers-is, c.loop-number.invariant) (sym (below_out (has c.args.set.now) c.loop-number.number (sym c.has.ensures ∙ w.if-has.false)))
]
