use Rattle.std.proofs.Common.{◌≡◌, ◌≢◌}
use Rattle.pin_rule.specs.Hands.{view_of, table_of}
use Rattle.pin_rule.specs.Told.{Tells}
use Rattle.slot_store.specs.Keys.{row_of}
use Rattle.slot_store.specs.Walks.{OwnsRow, IsRowStep, Walking}
use Rattle.slot_store.proofs.placing.place_row.Given as goal

abbrev pub invariant-loop-step : goal.invariant-loop-step
invariant-loop-step g l = record {
  table : table_of l.hand ≡ table_of l.fn.hand;
  owns : OwnsRow (view_of l.hand) l.fn.row;
  walking : Walking (IsRowStep l.fn.site.sizes l.fn.row (row_of l.key l.payload)) l.fn.site (view_of l.fn.hand) (view_of l.hand) l.key l._step l.place;
  told : l._step ≢ 0 → Tells g.C.Content.lawful g.C.Content.fits (view_of l.hand);
}
