use Rattle.std.proofs.Common.{◌≡◌, ◌+◌, map, length}
use Rattle.slot_store.specs.Means.{pass_of}
use Rattle.version_store.specs.Means.{editor_of}
use Rattle.version_store.specs.Gathering.{AreOfTable, taken_in_all}
use Rattle.version_store.proofs.editor.Editor.take_in_all.Given as goal

abbrev pub invariant-loop-taken : goal.invariant-loop-taken
invariant-loop-taken g l = record {
  left : length l.passes.items + l._taken ≡ length l.fn.passes.items;
  same : taken_in_all (map pass_of l.passes.items) (editor_of l.self) ≡ taken_in_all (map pass_of l.fn.passes.items) (editor_of l.fn.self);
  of_table : AreOfTable (editor_of l.self) (map pass_of l.passes.items);
}
