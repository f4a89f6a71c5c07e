-- One row is read, and kept or not.
use Rattle.std.proofs.Common.{◌≡◌, ℕ, ◌<◌, List, slice_index, sym, subst}
use Rattle.std.specs.Prelude.{Some}
use Rattle.pin_rule.specs.declared.content.Entry.{Entry}
use Rattle.pin_rule.specs.declared.view.View.{View}
use Rattle.pin_rule.specs.Choosing.{IsStepFor}
use Rattle.pin_rule.specs.Steps.{version_of}
use Rattle.pin_rule.specs.Told.{Tells}
use Rattle.version_store.specs.declared.current.Current.{Current}
use Rattle.version_store.specs.Rows.{IsWholeRow}
use Rattle.version_store.specs.Stages.{IsEditorOf, ReadsRow}
use Rattle.version_store.proofs.RowWords.{editor_then, knows_then, told_of}
use Rattle.version_store.proofs.WholeRows.{content_is}

-- a row that was read whole fits the log
pub read_fits : (L : List Entry → Type 0) (F : List Entry → List ℕ → Type 0) (c : Current) (v w : View) (row : ℕ) (words : List ℕ) → IsEditorOf c v
    → version_of v.entries row ≡ Some c.version → ReadsRow c v w row words → IsWholeRow words → Tells L F w → F w.log words
read_fits L F c v w row words e named reads whole told =
    let t = told_of L F c w (editor_then c v row e named w words reads) told in
    subst (F w.log) (content_is words whole) (t.1.fitting row (slice_index words) (knows_then c v row e named w words reads)
    (λ index lt. reads.known index (subst (λ (n : ℕ). index < n) (sym whole) lt)))

-- the chooser may be asked about a row that was read whole
pub may_ask : (L : List Entry → Type 0) (F : List Entry → List ℕ → Type 0) (leads : List Entry → List Entry → Type 0) (c : Current) (v w : View) (row : ℕ)
    (words : List ℕ) (next : List Entry) → IsEditorOf c v → version_of v.entries row ≡ Some c.version → ReadsRow c v w row words → IsWholeRow words
    → Tells L F w → L next → leads v.log next → IsStepFor L F leads words w.log next
may_ask L F leads c v w row words next e named reads whole told lawful may =
    let t = told_of L F c w (editor_then c v row e named w words reads) told in (
      t.0,
      lawful,
      subst (λ (log : List Entry). leads log next) (sym reads.goes.log) may,
      read_fits L F c v w row words e named reads whole told,
    )
