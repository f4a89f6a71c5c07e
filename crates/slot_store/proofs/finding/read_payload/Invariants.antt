use Rattle.std.proofs.Common.{◌≡◌, ◌+◌, ◌≤◌, length}
use Rattle.pin_rule.specs.Hands.{view_of, table_of}
use Rattle.pin_rule.specs.Told.{IsTold}
use Rattle.slot_store.specs.Walks.{Copies}
use Rattle.slot_store.proofs.finding.read_payload.Given as goal

abbrev pub invariant-loop-i : goal.invariant-loop-i
invariant-loop-i g l = record {
  table : table_of l.hand ≡ table_of l.fn.hand;
  told : IsTold (g.C.Content.fits (view_of l.hand).log) (view_of l.hand) l.fn.site.version;
  from : l.from ≡ length l.key + 2;
  wide : l.from + l.count ≤ l.fn.site.sizes.width;
  long : length l.buffer ≡ length l.fn.buffer;
  copies : Copies l.fn.site (view_of l.fn.hand) (view_of l.hand) l.fn.row (length l.key + 2) l.count l.i l.buffer;
}
