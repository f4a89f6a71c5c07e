use Rattle.std.proofs.Common.{◌≡◌, ◌+◌, ◌≤◌, length, take, slice_index}
use Rattle.pin_rule.specs.Hands.{view_of, table_of}
use Rattle.pin_rule.specs.Told.{Tells}
use Rattle.version_store.specs.Stages.{ReadsRow}
use Rattle.version_store.proofs.row_reading.read_row.Given as goal

abbrev pub invariant-loop-index : goal.invariant-loop-index
invariant-loop-index g l = record {
  table : table_of l.hand ≡ table_of l.fn.hand;
  room : length l.buffer ≡ l.fn.current.sizes.width;
  sized : l.count ≡ 2 + (slice_index l.buffer 0 + slice_index l.buffer 1);
  few : l.count ≤ l.fn.current.sizes.width;
  begun : 2 ≤ l.index;
  read : ReadsRow l.fn.current (view_of l.fn.hand) (view_of l.hand) l.fn.row (take l.index l.buffer);
  told : Tells g.C.Content.lawful g.C.Content.fits (view_of l.hand);
}
