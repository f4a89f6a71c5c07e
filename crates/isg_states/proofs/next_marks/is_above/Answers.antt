use Rattle.std.proofs.Common.{◌≡◌, ◌-◌, ◌<◌, length, slice_get, Some, sym, arith}
use Rattle.std.proofs.lemmas.Bool.{ltb-true, lt-ltb}
use Rattle.isg_states.specs.Marks.{mark_number}
use Rattle.isg_states.proofs.MarkLists.{below_all, last_below}
use Rattle.isg_states.proofs.next_marks.is_above.Goals as goal

pub returns : goal.returns
returns c =
    let there : slice_get c.args.marks.now (length c.args.marks.now - 1) ≡ Some c.in-Some.last.now = sym c.in-Some.ensures.value in
    let low : c.number.result ≡ mark_number c.in-Some.last.now = c.number.ensures in
    let high : c.number-2.result ≡ mark_number c.args.mark = c.number-2.ensures in (
      λ t. let less : c.number.result < c.number-2.result = ltb-true _ _ t in
          below_all c.args.marks.now c.in-Some.last.now c.args.mark c.requires there (omega arith),
      λ all. let less = last_below c.args.marks.now c.in-Some.last.now c.args.mark there all in
          lt-ltb _ _ (omega arith),
    )
