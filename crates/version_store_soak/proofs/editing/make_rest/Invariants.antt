use Rattle.version_store.specs.Edits.{IsSameEditor}
use Rattle.version_store.specs.Means.{editor_of}
use Rattle.version_store_soak.proofs.editing.make_rest.Given as goal

abbrev pub invariant-loop-left : goal.invariant-loop-left
invariant-loop-left l = IsSameEditor (editor_of l.fn.editor) (editor_of l.editor)
