use Rattle.std.proofs.Common.{◌≡◌, take}
use Rattle.pin_rule.specs.Hands.{view_of, table_of}
use Rattle.version_store.specs.Stages.{WritesEntry}
use Rattle.version_store.proofs.entry_writing.write_entry.Given as goal

abbrev pub invariant-loop-index : goal.invariant-loop-index
invariant-loop-index g l = record {
  table : table_of l.hand ≡ table_of l.fn.hand;
  wrote : WritesEntry l.fn.current (view_of l.fn.hand) (view_of l.hand) (take l.index l.entry);
}
