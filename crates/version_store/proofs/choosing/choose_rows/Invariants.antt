use Rattle.std.proofs.Common.{◌≡◌, ℕ, List, length}
use Rattle.std.specs.Prelude.{◌↔◌, Option}
use Rattle.pin_rule.specs.declared.content.Entry.{Entry}
use Rattle.pin_rule.specs.Hands.{view_of, table_of}
use Rattle.version_store.specs.Asking.{AsksEach}
use Rattle.version_store.specs.Rows.{Found, rows_found}
use Rattle.version_store.specs.Stages.{next_log_of, FindsRows}
use Rattle.version_store.specs.Choices.{HasChosen}
use Rattle.version_store.proofs.choosing.choose_rows.Given as goal

abbrev pub invariant-loop-place : goal.invariant-loop-place
invariant-loop-place g l = record {
  table : table_of l.hand ≡ table_of l.fn.hand;
  buffer : length l.buffer ≡ l.fn.current.sizes.width;
  chosen : (found : List (Option Found)) × (length found ≡ l.place) × FindsRows l.fn.current (view_of l.fn.hand) (view_of l.hand) found
      × HasChosen (g.H.Chooser.keeps l.fn.chooser) (g.C.Content.fits (next_log_of (view_of l.fn.hand))) l.fn.current.sizes found l.places
      × AsksEach g.H.Chooser.moves l.fn.chooser (rows_found found) l.chooser;
  same_leads : (first next : List Entry) → g.H.Chooser.leads l.chooser first next ↔ g.H.Chooser.leads l.fn.chooser first next;
  same_keeps : (words : List ℕ) → g.H.Chooser.keeps l.chooser words ↔ g.H.Chooser.keeps l.fn.chooser words;
}
