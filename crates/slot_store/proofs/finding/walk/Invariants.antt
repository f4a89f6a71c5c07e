use Rattle.std.proofs.Common.{◌≡◌, ◌≢◌}
use Rattle.pin_rule.specs.Hands.{view_of, table_of}
use Rattle.pin_rule.specs.Told.{Tells}
use Rattle.slot_store.specs.Quiet.{IsPlain}
use Rattle.slot_store.specs.Walks.{Walking}
use Rattle.slot_store.proofs.finding.walk.Given as goal

abbrev pub invariant-loop-step : goal.invariant-loop-step
invariant-loop-step g l = record {
  table : table_of l.hand ≡ table_of l.fn.hand;
  own : (view_of l.hand).own ≡ (view_of l.fn.hand).own;
  walking : Walking IsPlain l.fn.site (view_of l.fn.hand) (view_of l.hand) l.key l._step l.place;
  told : l._step ≢ 0 → Tells g.C.Content.lawful g.C.Content.fits (view_of l.hand);
}
