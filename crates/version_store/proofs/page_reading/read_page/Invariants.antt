use Rattle.std.proofs.Common.{◌≡◌, List, length}
use Rattle.std.specs.Prelude.{Option}
use Rattle.pin_rule.specs.Hands.{view_of, table_of}
use Rattle.version_store.specs.Rows.{Found}
use Rattle.version_store.specs.Stages.{FindsRows}
use Rattle.version_store.proofs.page_reading.read_page.Given as goal

abbrev pub invariant-loop-place : goal.invariant-loop-place
invariant-loop-place g l = record {
  table : table_of l.hand ≡ table_of l.fn.hand;
  buffer : length l.buffer ≡ l.fn.current.sizes.width;
  found : (found : List (Option Found)) × (length found ≡ l.place) × FindsRows l.fn.current (view_of l.fn.hand) (view_of l.hand) found;
}
