use Rattle.std.proofs.Common.{◌≡◌, ◌+◌, length}
use Rattle.pin_rule.specs.Hands.{view_of}
use Rattle.version_store.specs.Means.{editor_of}
use Rattle.version_store.specs.GivingUp.{GivesUp}
use Rattle.version_store.proofs.editor.Editor.give_up_dropped.Given as goal

abbrev pub invariant-loop-count : goal.invariant-loop-count
invariant-loop-count g l = record {
  left : length l.self.lives.older.items + l.count ≡ l.most;
  known : (view_of l.self.hand).known ≡ (view_of l.fn.self.hand).known;
  given : GivesUp l.count (editor_of l.fn.self) (editor_of l.self);
}
