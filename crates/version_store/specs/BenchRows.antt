-- What a bench tells of one place of its page.
use Rattle.std.specs.Prelude.{◌≡◌, ℕ, List, ◌++◌, Option, Some, None}
use Rattle.std.specs.Borrow.{Bor}
use Rattle.pin_rule.specs.Lists.{In}
use Rattle.version_store.specs.Rows.{Found, IsWholeRow}
use Rattle.version_store.specs.Edits.{place_loads}
use Rattle.version_store.specs.Meaning.{BenchMeaning}

-- the place was loaded, and the row there if there is one; the bench stays the same in all but its steps
pub record LoadsPlace (m n : BenchMeaning) (place : ℕ) (x : Option Found) : Type 0 where
  pub page : ℕ
  pub steps : n.steps ≡ m.steps ++ place_loads m.sizes page place x
  pub sizes : n.sizes ≡ m.sizes
  pub log : n.log ≡ m.log
  pub table : n.table ≡ m.table
  pub pins_left : n.pins_left ≡ m.pins_left
  pub kept : (row : List ℕ) → In row n.graph → In row m.graph
  pub every : (row : List ℕ) → In row m.graph → In row n.graph

-- the answer is none where the place was met empty, and else the whole row that was met, which is of the graph
abbrev pub TellsRow : BenchMeaning → BenchMeaning → ℕ → Option (Bor (List ℕ)) → Type 0
TellsRow m n place None = LoadsPlace m n place None
TellsRow m n place (Some words) = (f : Found) × LoadsPlace m n place (Some f) × (f.words ≡ words.now) × IsWholeRow words.now × In words.now m.graph

abbrev pub LendsRow : BenchMeaning → Option (Bor (List ℕ)) → Type 0
LendsRow m None = Unit {0}
LendsRow m (Some words) = In words.now m.graph
