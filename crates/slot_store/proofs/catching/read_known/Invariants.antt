use Rattle.std.proofs.Common.{◌≡◌, ◌≢◌}
use Rattle.pin_rule.specs.Hands.{view_of, table_of}
use Rattle.pin_rule.specs.Told.{Tells}
use Rattle.slot_store.specs.Logs.{ReadsKnown}
use Rattle.slot_store.proofs.CatchingUp.{HasWords}
use Rattle.slot_store.proofs.catching.read_known.Given as goal

abbrev pub invariant-loop-index : goal.invariant-loop-index
invariant-loop-index g l = record {
  table : table_of l.hand ≡ table_of l.fn.hand;
  known : ReadsKnown (view_of l.fn.hand) (view_of l.hand);
  words : HasWords (view_of l.fn.hand).log l.fn.entry l.words l.index;
  told : l.index ≢ 0 → Tells g.C.Content.lawful g.C.Content.fits (view_of l.hand);
}
