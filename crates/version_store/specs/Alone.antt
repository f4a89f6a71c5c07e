-- What an edit of a bench does, while nobody else uses the table.
use Rattle.std.specs.Prelude.{◌≡◌, ℕ, List, [], length}
use Rattle.pin_rule.specs.Lists.{In}
use Rattle.pin_rule.specs.Views.{whole}
use Rattle.version_store.specs.Meaning.{BenchMeaning, EditorMeaning}
use Rattle.version_store.specs.GivingUp.{GivesUpAll}
use Rattle.version_store.specs.Edits.{MakesVersion}

-- the bench as an editor: it has the whole share, and one version is live
pub record IsAlone (b : BenchMeaning) (e : EditorMeaning) : Type 0 where
  pub share : e.share ≡ whole
  pub one_version : e.older ≡ []
  pub sizes : b.sizes ≡ e.sizes
  pub log : b.log ≡ e.log
  pub table : b.table ≡ e.table
  pub pins_left : b.pins_left ≡ e.pins_left
  pub steps : b.steps ≡ e.steps

-- The next version was made and the one before given up. The graph is exactly the rows that were there and are kept
pub record EditsAlone (keeps : List ℕ → Type 0) (entry : List ℕ) (m n : BenchMeaning) : Type 0 where
  pub before : EditorMeaning
  pub between : EditorMeaning
  pub after : EditorMeaning
  pub count : ℕ
  pub first : IsAlone m before
  pub made : MakesVersion keeps entry before between
  pub gave_up : GivesUpAll count between after
  pub last : IsAlone n after
  pub sizes : n.sizes ≡ m.sizes
  pub table : n.table ≡ m.table
  pub pins_left : n.pins_left ≡ m.pins_left
  pub kept : (row : List ℕ) → In row n.graph → In row m.graph × keeps row
  pub every : (row : List ℕ) → In row m.graph → keeps row → In row n.graph

-- the log is full, and has so many entries
pub record IsFullOfEntries (m : BenchMeaning) (entries : ℕ) : Type 0 where
  pub full : length m.log ≡ m.sizes.log
  pub entries_are : entries ≡ length m.log
