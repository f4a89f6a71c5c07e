use Rattle.version_store.proofs.editor.Editor.give_up.Goals as goal

pub returns-clause-given : goal.returns-clause-given
returns-clause-given g c = let q = c.give_up_dropped.ensures.given in (q.0, c.give_up_dropped.result.released, q.1, q.2)
