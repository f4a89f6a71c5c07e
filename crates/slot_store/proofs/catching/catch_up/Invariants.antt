use Rattle.std.proofs.Common.{◌≡◌}
use Rattle.pin_rule.specs.Hands.{view_of, table_of}
use Rattle.pin_rule.specs.Told.{Tells}
use Rattle.slot_store.specs.Logs.{CatchesUp}
use Rattle.slot_store.proofs.catching.catch_up.Given as goal

abbrev pub invariant-loop-entry : goal.invariant-loop-entry
invariant-loop-entry g l = record {
  table : table_of l.hand ≡ table_of l.fn.hand;
  caught : CatchesUp l.fn.site (view_of l.fn.hand) (view_of l.hand) l.entry;
  told : Tells g.C.Content.lawful g.C.Content.fits (view_of l.hand);
}
