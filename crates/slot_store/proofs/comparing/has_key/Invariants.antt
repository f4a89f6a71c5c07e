use Rattle.std.proofs.Common.{◌≡◌, ◌+◌, ◌≤◌, length}
use Rattle.pin_rule.specs.Hands.{view_of, table_of}
use Rattle.pin_rule.specs.Told.{Tells}
use Rattle.slot_store.proofs.Reading.{Reading}
use Rattle.slot_store.proofs.comparing.has_key.Given as goal

abbrev pub invariant-loop-i : goal.invariant-loop-i
invariant-loop-i g l = record {
  table : table_of l.hand ≡ table_of l.fn.hand;
  room : 2 + length l.key ≤ l.fn.site.sizes.width;
  reading : Reading l.fn.site (view_of l.fn.hand) (view_of l.hand) l.fn.row l.fn.key (l.i + 2);
  told : Tells g.C.Content.lawful g.C.Content.fits (view_of l.hand);
}
