use Rattle.std.proofs.Common.{rules}
use Rattle.std.proofs.lemmas.Fn.{always_returns_same}
use Rattle.edit_log.specs.declared.definitions.DefId.{DefId}
use Rattle.edit_log.specs.Live.{definition_cmp}
use Rattle.edit_log.proofs.DefinitionOrder.{take_there, take_none}
use Rattle.edit_log.proofs.live.remove.Goals as goal

pub returns-in-Ok : goal.returns-in-Ok
returns-in-Ok c = λ sorted.
    let position = c.in-Ok.ensures.position (λ (y : DefId). definition_cmp y c.args.definition) (always_returns_same _ _ _ (λ a r f h. search rules)) in
    rw c.remove.ensures.items (take_there c.args.live.now.items c.args.definition sorted c.in-Ok.place (rw c.deref.ensures.value at c.in-Ok.ensures.bound)
    (rw c.deref.ensures.value at position))

pub returns-in-Err : goal.returns-in-Err
returns-in-Err c = λ sorted.
    let position = c.in-Err.ensures.position (λ (y : DefId). definition_cmp y c.args.definition) (always_returns_same _ _ _ (λ a r f h. search rules)) in
    take_none c.args.live.now.items c.args.definition sorted c.in-Err.field-0 (rw c.deref.ensures.value at c.in-Err.ensures.bound)
    (rw c.deref.ensures.value at position)
