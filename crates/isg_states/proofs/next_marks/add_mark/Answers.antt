use Rattle.std.proofs.Common.{rules, refl}
use Rattle.std.proofs.lemmas.Fn.{always_returns_same}
use Rattle.isg_states.specs.declared.mark.Mark.{Mark}
use Rattle.isg_states.specs.Marks.{mark_cmp}
use Rattle.isg_states.proofs.MarkLists.{put_there, put_new, put_last}
use Rattle.isg_states.proofs.next_marks.add_mark.Goals as goal

pub returns-then-is_above-clause-added : goal.returns-then-is_above-clause-added
returns-then-is_above-clause-added g c = rw c.in_ok-push.ensures.items
    (put_last c.args.found.now.items c.args.mark c.requires.order (rw c.deref.ensures.value at c.if-is_above.ensures.0 refl))

pub returns-in-Ok-clause-added : goal.returns-in-Ok-clause-added
returns-in-Ok-clause-added g c =
    let position = c.in-Ok.ensures.position (λ (y : Mark). mark_cmp y c.args.mark) (always_returns_same _ _ _ (λ a r f h. search rules)) in
    put_there c.args.found.now.items c.args.mark c.requires.order c.requires.small c.requires.index c.in-Ok.field-0
    (rw c.deref-2.ensures.value at c.in-Ok.ensures.bound) (rw c.deref-2.ensures.value at position)

pub returns-in_ok-insert-in-Err-clause-added : goal.returns-in_ok-insert-in-Err-clause-added
returns-in_ok-insert-in-Err-clause-added g c =
    let position = c.in-Err.ensures.position (λ (y : Mark). mark_cmp y c.args.mark) (always_returns_same _ _ _ (λ a r f h. search rules)) in
    rw c.in_ok-insert-in-Err.ensures.items
    (put_new c.args.found.now.items c.args.mark c.requires.order c.in-Err.place (rw c.deref-2.ensures.value at c.in-Err.ensures.bound)
    (rw c.deref-2.ensures.value at position))
