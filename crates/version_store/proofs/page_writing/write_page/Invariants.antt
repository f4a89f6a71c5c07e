use Rattle.std.proofs.Common.{◌≡◌, ◌*◌, take}
use Rattle.pin_rule.specs.Hands.{view_of, table_of}
use Rattle.version_store.specs.Stages.{WritesPage}
use Rattle.version_store.proofs.page_writing.write_page.Given as goal

abbrev pub invariant-loop-group : goal.invariant-loop-group
invariant-loop-group g l = record {
  table : table_of l.hand ≡ table_of l.fn.hand;
  wrote : WritesPage l.fn.current (view_of l.fn.hand) (view_of l.hand) (take (l.group * 8) l.places);
}
