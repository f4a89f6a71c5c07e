use Rattle.std.proofs.Common.{◌≡◌, ◌<◌}
use Rattle.pin_rule.specs.Hands.{view_of, table_of}
use Rattle.pin_rule.specs.Told.{Tells}
use Rattle.slot_store.proofs.Taking.{Taking}
use Rattle.slot_store.proofs.claiming.claim_within.Given as goal

abbrev pub invariant-loop-row : goal.invariant-loop-row
invariant-loop-row g l = record {
  table : table_of l.hand ≡ table_of l.fn.hand;
  taking : Taking l.fn.site (view_of l.fn.hand) (view_of l.hand) l.fn.from l.row;
  told : l.fn.from < l.row → Tells g.C.Content.lawful g.C.Content.fits (view_of l.hand);
  still : Tells g.C.Content.lawful g.C.Content.fits (view_of l.fn.hand) → Tells g.C.Content.lawful g.C.Content.fits (view_of l.hand);
}
