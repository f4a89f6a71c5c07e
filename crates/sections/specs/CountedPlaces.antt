-- How the rows of a bench's page are counted, place by place.
use Rattle.std.specs.Prelude.{◌≡◌, ◌↔◌, ℕ, ◌+◌, List, Option, Some, None}
use Rattle.pin_rule.specs.declared.content.Entry.{Entry}
use Rattle.pin_rule.specs.Lists.{Each}
use Rattle.row_coding.specs.declared.kinds.Kind.{Kind}
use Rattle.row_coding.specs.declared.kinds.Kind.TheVariants.{Items, Scan}
use Rattle.row_coding.specs.Rows.{Key, kind_of_key, row_words}
use Rattle.graph_content.specs.Contents.{FitsLog}
use Rattle.slot_store.specs.Quiet.{IsQuiet}
use Rattle.version_store.specs.Meaning.{BenchMeaning}
use Rattle.version_store.specs.Placed.{IsByPlaces}
use Rattle.sections.specs.Holding.{HasSameRows}
use Rattle.sections.specs.Recording.{AddsSteps}

-- the bench is as it was in all but its steps, to which quiet ones were added
pub record IsSameBench (m n : BenchMeaning) : Type 0 where
  pub sizes : n.sizes ≡ m.sizes
  pub log : n.log ≡ m.log
  pub table : n.table ≡ m.table
  pub pins_left : n.pins_left ≡ m.pins_left
  pub rows : HasSameRows m.graph n.graph
  pub steps : AddsSteps m n (Each IsQuiet)

-- a row that fits the log, with the kind of its key
pub record IsOfKind (log : List Entry) (row : List ℕ) (kind : Kind) : Type 0 where
  pub fits : FitsLog log row
  pub told : (key : Key) (payload : List ℕ) → row ≡ row_words key payload → kind ≡ kind_of_key key

-- no row stands at the place, or one of this kind
abbrev pub MeetsKind : (ℕ → List ℕ → Type 0) → List Entry → ℕ → Option Kind → Type 0
MeetsKind Stands log place None = (row : List ℕ) → ¬ (Stands place row)
MeetsKind Stands log place (Some kind) = (row : List ℕ) × Stands place row × IsOfKind log row kind

-- the kind of the row at a place was told, and the bench stayed as it was
pub record ReadsKind (m n : BenchMeaning) (Stood Stands : ℕ → List ℕ → Type 0) (place : ℕ) (kind : Option Kind) : Type 0 where
  pub same : IsSameBench m n
  pub meets : MeetsKind Stood m.log place kind
  pub stays : (at : ℕ) (row : List ℕ) → Stood at row ↔ Stands at row
  pub by_places : IsByPlaces Stands n.sizes.places n.graph

-- how many of either kind there are with this one
abbrev pub counted_with : Option Kind → ℕ × ℕ → ℕ × ℕ
counted_with None held = held
counted_with (Some Items) held = (held.0 + 1, held.1)
counted_with (Some Scan) held = (held.0, held.1 + 1)
