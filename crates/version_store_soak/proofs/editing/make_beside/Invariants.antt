use Rattle.version_store.specs.Edits.{IsSameEditor}
use Rattle.version_store.specs.Means.{editor_of}
use Rattle.version_store_soak.proofs.editing.make_beside.Given as goal

abbrev pub invariant-loop-try : goal.invariant-loop-try
invariant-loop-try l = IsSameEditor (editor_of l.fn.editor) (editor_of l.editor)
