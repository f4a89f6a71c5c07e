-- What a bench and an editor mean.
use Rattle.std.specs.Prelude.{◌≡◌, ℕ, List, []}
use Rattle.atomic_table.specs.Seated.{TableId}
use Rattle.pin_rule.specs.declared.sizes.Sizes.{Sizes}
use Rattle.pin_rule.specs.declared.content.Entry.{Entry}
use Rattle.pin_rule.specs.declared.view.Step.{Step}
use Rattle.pin_rule.specs.declared.view.View.{View}
use Rattle.pin_rule.specs.declared.view.Live.{Live}
use Rattle.pin_rule.specs.declared.view.Older.{Older}
use Rattle.version_store.specs.Roles.{role_of}
use Rattle.version_store.specs.Graphs.{rows_known}

-- The sizes of the table, the log of its newest version, the table, and of the bench its pins left, its graph and its steps. The graph is the rows of the
-- page of the version, each the list of its words; two graphs are compared by their members
pub record BenchMeaning : Type 0 where
  pub sizes : Sizes
  pub log : List Entry
  pub table : TableId × ℕ
  pub pins_left : ℕ
  pub graph : List (List ℕ)
  pub steps : List Step

abbrev pub bench_meaning : View → TableId × ℕ → BenchMeaning
bench_meaning v table = record { sizes = v.sizes; log = v.log; table = table; pins_left = v.pins_left; graph = rows_known v.known; steps = v.steps }

-- The same of an editor, with its share and its live versions: the newest, and those before it, newest first, each with the pins taken on it. A live version
-- has its page, the release word of that page when it began, and the rows that were carried into it
pub record EditorMeaning : Type 0 where
  pub sizes : Sizes
  pub log : List Entry
  pub table : TableId × ℕ
  pub share : ℕ
  pub pins_left : ℕ
  pub newest : Live
  pub older : List Older
  pub steps : List Step

abbrev pub editor_meaning : View → TableId × ℕ → EditorMeaning
editor_meaning v table = record {
  sizes = v.sizes;
  log = v.log;
  table = table;
  share = v.share;
  pins_left = v.pins_left;
  newest = (role_of v).newest;
  older = (role_of v).older;
  steps = v.steps;
}

-- a table at version 0, of which no step was made
pub record IsNewBench (z : Sizes) (m : BenchMeaning) : Type 0 where
  pub sizes : m.sizes ≡ z
  pub log : m.log ≡ []
  pub pins_left : m.pins_left ≡ z.pins
  pub graph : m.graph ≡ []
  pub steps : m.steps ≡ []
