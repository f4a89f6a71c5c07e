-- What benches, pinned and not, and editors mean.
use Rattle.std.specs.Prelude.{ℕ, List, Some}
use Rattle.pin_rule.specs.Hands.{view_of, table_of}
use Rattle.version_store.specs.declared.bench.Bench.{Bench}
use Rattle.version_store.specs.declared.editor.Editor.{Editor}
use Rattle.slot_store.specs.Meaning.{Meaning, with_graph}
use Rattle.slot_store.specs.PinnedHands.{view_in, meaning_in}
use Rattle.version_store.specs.declared.lone.Lone.{Lone}
use Rattle.version_store.specs.Graphs.{rows_known}
use Rattle.version_store.specs.Meaning.{BenchMeaning, EditorMeaning, bench_meaning, editor_meaning}
use Rattle.version_store.specs.Placed.{StandsKnownAt}

abbrev pub editor_of : {C : Type 0} → Editor C → EditorMeaning
editor_of e = editor_meaning (view_of e.hand) (table_of e.hand)

abbrev pub bench_of : {C : Type 0} → Bench C → BenchMeaning
bench_of b = bench_meaning (view_of b.editor.hand) (table_of b.editor.hand)

-- the row stands at the place of the bench's page
abbrev pub StandsAt : {C : Type 0} → Bench C → ℕ → List ℕ → Type 0
StandsAt b = StandsKnownAt (view_of b.editor.hand).known

-- a page that tells its graph
abbrev pub lone_of : {C : Type 0} → Lone C → Meaning
lone_of l = with_graph (meaning_in l.hand) (Some (rows_known (view_in l.hand).known))
