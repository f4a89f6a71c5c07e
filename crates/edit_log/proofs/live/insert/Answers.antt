use Rattle.std.proofs.Common.{rules}
use Rattle.std.proofs.lemmas.Fn.{always_returns_same}
use Rattle.edit_log.specs.declared.definitions.DefId.{DefId}
use Rattle.edit_log.specs.Live.{definition_cmp}
use Rattle.edit_log.proofs.DefinitionOrder.{put_there, put_new}
use Rattle.edit_log.proofs.live.insert.Goals as goal

pub returns-in-Ok-clause-live : goal.returns-in-Ok-clause-live
returns-in-Ok-clause-live c = λ sorted.
    let position = c.in-Ok.ensures.position (λ (y : DefId). definition_cmp y c.args.definition) (always_returns_same _ _ _ (λ a r f h. search rules)) in
    put_there c.args.live.now.items c.args.definition sorted c.in-Ok.field-0 (rw c.deref.ensures.value at c.in-Ok.ensures.bound)
    (rw c.deref.ensures.value at position)

pub returns-in-Ok-insert-clause-live : goal.returns-in-Ok-insert-clause-live
returns-in-Ok-insert-clause-live c = λ sorted.
    let position = c.in-Err.ensures.position (λ (y : DefId). definition_cmp y c.args.definition) (always_returns_same _ _ _ (λ a r f h. search rules)) in
    rw c.in-Ok-insert.ensures.items (put_new c.args.live.now.items c.args.definition sorted c.in-Err.place (rw c.deref.ensures.value at c.in-Err.ensures.bound)
    (rw c.deref.ensures.value at position))
