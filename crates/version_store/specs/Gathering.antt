-- How an editor and all passes of one part become a bench again.
use Rattle.std.specs.Prelude.{◌≡◌, ℕ, ◌+◌, ◌≤◌, List, [], ◌∷◌, ◌++◌, length, Option, Some}
use Rattle.pin_rule.specs.Lists.{Each, In, total}
use Rattle.pin_rule.specs.Steps.{was_joined}
use Rattle.pin_rule.specs.Views.{whole}
use Rattle.slot_store.specs.Meaning.{PassMeaning}
use Rattle.version_store.specs.Meaning.{BenchMeaning, EditorMeaning}
use Rattle.version_store.specs.Rows.{Found, IsWholeRow, rows_found}
use Rattle.version_store.specs.Edits.{page_loads}
use Rattle.version_store.specs.GivingUp.{GivesUp}

-- the passes are of the editor's table, and together they have no more pins than a table has in its life
pub record AreOfTable (m : EditorMeaning) (ps : List PassMeaning) : Type 0 where
  pub tables : Each (λ (p : PassMeaning). p.table ≡ m.table) ps
  pub pins : m.pins_left + total (λ (p : PassMeaning). p.pins_left) ps ≤ m.sizes.pins

-- these are the passes of one part, and its editor
pub record AreAllOf (m : EditorMeaning) (ps : List PassMeaning) : Type 0 where
  pub of_table : AreOfTable m ps
  pub shares : m.share + total (λ (p : PassMeaning). p.share) ps ≡ whole

-- the editor with the share, the pins left and the steps of a pass
abbrev pub taken_in : PassMeaning → EditorMeaning → EditorMeaning
taken_in p m = record m {
  share = m.share + p.share;
  pins_left = m.pins_left + p.pins_left;
  steps = (m.steps ++ was_joined ∷ []) ++ p.steps;
}

-- with those of some passes, in their order
abbrev pub taken_in_all : List PassMeaning → EditorMeaning → EditorMeaning
taken_in_all [] m = m
taken_in_all (p ∷ ps) m = taken_in_all ps (taken_in p m)

-- each place of the newest page was loaded, with the whole row that stands there
pub record ReadsPage (m n : EditorMeaning) (found : List (Option Found)) : Type 0 where
  pub every_place : length found ≡ m.sizes.places
  pub whole_rows : (f : Found) → In (Some f) found → IsWholeRow f.words
  pub is : n ≡ record m { steps = m.steps ++ page_loads m.sizes m.newest.page 0 found }

-- the passes were taken in, all older versions were given up, and the page was read
pub record Gathers (m : EditorMeaning) (ps : List PassMeaning) (b : BenchMeaning) : Type 0 where
  pub count : ℕ
  pub given : EditorMeaning
  pub after : EditorMeaning
  pub gave_up : GivesUp count (taken_in_all ps m) given
  pub one_version : given.older ≡ []
  pub found : List (Option Found)
  pub read : ReadsPage given after found
  -- the graph is the rows that were found
  pub known : (row : List ℕ) → In row b.graph → In row (rows_found found)
  pub every : (row : List ℕ) → In row (rows_found found) → In row b.graph
  pub sizes : b.sizes ≡ m.sizes
  pub log : b.log ≡ m.log
  pub table : b.table ≡ m.table
  pub pins_left : b.pins_left ≡ m.pins_left + total (λ (p : PassMeaning). p.pins_left) ps
  pub steps : b.steps ≡ after.steps
