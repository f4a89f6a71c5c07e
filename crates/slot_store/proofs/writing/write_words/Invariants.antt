use Rattle.std.proofs.Common.{◌≡◌}
use Rattle.pin_rule.specs.Hands.{view_of, table_of}
use Rattle.slot_store.specs.Walks.{Writes}
use Rattle.slot_store.proofs.writing.write_words.Given as goal

abbrev pub invariant-loop-i : goal.invariant-loop-i
invariant-loop-i g l = record {
  table : table_of l.hand ≡ table_of l.fn.hand;
  writes : Writes l.fn.site (view_of l.fn.hand) (view_of l.hand) l.fn.row l.fn.from l.words l.i;
}
