use Rattle.std.proofs.Common.{◌≡◌, ◌++◌, ℕ, List, length, take}
use Rattle.pin_rule.specs.declared.view.View.{View}
use Rattle.pin_rule.specs.Hands.{view_of, table_of}
use Rattle.version_store.specs.Stages.{IsEditorOf, WritesPage}
use Rattle.version_store.proofs.page_writing.write_places.Given as goal

abbrev pub invariant-loop-offset : goal.invariant-loop-offset
invariant-loop-offset g l = record {
  table : table_of l.hand ≡ table_of l.fn.hand;
  wrote : (v : View) (before : List ℕ) → IsEditorOf l.fn.current v → length before ≡ l.fn.first → WritesPage l.fn.current v (view_of l.fn.hand) before
      → WritesPage l.fn.current v (view_of l.hand) (before ++ take l.offset l.part);
}
