use Rattle.std.proofs.Common.{◌≡◌}
use Rattle.pin_rule.specs.Hands.{view_of, table_of}
use Rattle.slot_store.specs.Logs.{ReadsNext}
use Rattle.slot_store.proofs.catching.read_next.Given as goal

abbrev pub invariant-loop-index : goal.invariant-loop-index
invariant-loop-index g l = record {
  table : table_of l.hand ≡ table_of l.fn.hand;
  reads : ReadsNext l.fn.site (view_of l.fn.hand) (view_of l.hand) l.fn.entry l.index;
}
