-- What an edit does, by the steps that it adds.
use Rattle.std.specs.Prelude.{◌≡◌, ℕ, suc, ◌+◌, ◌<◌, List, [], ◌∷◌, ◌++◌, length, slice_index, Option, Some, None}
use Rattle.pin_rule.specs.declared.sizes.Sizes.{Sizes}
use Rattle.pin_rule.specs.declared.view.Step.{Step}
use Rattle.pin_rule.specs.Layout.{version_named, page_named, taken_named}
use Rattle.pin_rule.specs.Making.{rows_of}
use Rattle.pin_rule.specs.Lists.{In}
use Rattle.pin_rule.specs.Steps.{loaded_place, loaded_row, wrote_log, wrote_place, swapped}
use Rattle.version_store.specs.declared.edit_error.EditError.{EditError}
use Rattle.version_store.specs.declared.edit_error.EditError.TheVariants.{VersionsFull, LogFull}
use Rattle.version_store.specs.Rows.{Found, IsWholeRow}
use Rattle.version_store.specs.Meaning.{EditorMeaning}
use Rattle.version_store.specs.GivingUp.{GivesUp, GivesUpAll, KeepsOldest}

-- The steps of an edit

-- the words of an entry, from an index on
abbrev pub entry_stores : Sizes → ℕ → ℕ → List ℕ → List Step
entry_stores z entry index [] = []
entry_stores z entry index (w ∷ ws) = wrote_log z entry index w ∷ entry_stores z entry (suc index) ws

-- the words of a row, from an index on
abbrev pub row_loads : Sizes → ℕ → ℕ → List ℕ → List Step
row_loads z row index [] = []
row_loads z row index (w ∷ ws) = loaded_row z row index w ∷ row_loads z row (suc index) ws

-- a place, and the row there if there is one
abbrev pub place_loads : Sizes → ℕ → ℕ → Option Found → List Step
place_loads z page place None = loaded_place z page place 0 ∷ []
place_loads z page place (Some f) = loaded_place z page place (suc f.row) ∷ row_loads z f.row 0 f.words

-- the places of a page, from one on, each with its row
abbrev pub page_loads : Sizes → ℕ → ℕ → List (Option Found) → List Step
page_loads z page place [] = []
page_loads z page place (f ∷ fs) = place_loads z page place f ++ page_loads z page (suc place) fs

-- the places of a page, from one on
abbrev pub page_stores : Sizes → ℕ → ℕ → List ℕ → List Step
page_stores z page place [] = []
page_stores z page place (w ∷ ws) = wrote_place z page place w ∷ page_stores z page (suc place) ws

-- the words of the entry in order; then each place of the old page, with the whole row that stands there; then each place of the new page; and last the swap
-- that makes the new version the current one
abbrev pub edit_steps : Sizes → ℕ → ℕ → ℕ → List ℕ → List (Option Found) → List ℕ → ℕ → List Step
edit_steps z version old new entry found places met = entry_stores z version 0 entry ++ (page_loads z old 0 found ++ (page_stores z new 0 places
    ++ swapped (suc version) new met ∷ []))

-- the rows among these that are kept stand at places, each at one, and no others do
pub record KeepsExactly (keeps : List ℕ → Type 0) (found : List (Option Found)) (places : List ℕ) : Type 0 where
  pub every : (f : Found) → In (Some f) found → keeps f.words → In (suc f.row) places
  pub only : (row : ℕ) → In (suc row) places → (f : Found) × In (Some f) found × (f.row ≡ row) × keeps f.words
  pub once : (p q row : ℕ) → slice_index places p ≡ suc row → slice_index places q ≡ suc row → p ≡ q

-- the editor made the next version, and its page holds the rows that were met and kept
pub record MakesVersion (keeps : List ℕ → Type 0) (entry : List ℕ) (m n : EditorMeaning) : Type 0 where
  pub old : ℕ
  pub new : ℕ
  pub found : List (Option Found)
  pub places : List ℕ
  pub met : ℕ
  pub steps : n.steps ≡ m.steps ++ edit_steps m.sizes (length m.log) old new entry found places met
  pub every_place : length found ≡ m.sizes.places
  pub whole_rows : (f : Found) → In (Some f) found → IsWholeRow f.words
  pub every_new_place : length places ≡ m.sizes.places
  pub kept : KeepsExactly keeps found places
  -- the word that the swap met names the version before, its page and the pins taken on it
  pub version_before : version_named met ≡ length m.log
  pub page_before : page_named met ≡ old
  pub log : n.log ≡ m.log ++ record { words = entry } ∷ []
  -- the rows of the new page were carried into the new version
  pub base : ℕ
  pub newest : n.newest ≡ record { version = suc (length m.log); page = new; base = base; carried = rows_of places }
  pub older : n.older ≡ record { live = m.newest; taken = taken_named met } ∷ m.older

-- the editor stays the same in all but its log, its live versions and its steps
pub record IsSameEditor (m n : EditorMeaning) : Type 0 where
  pub sizes : n.sizes ≡ m.sizes
  pub table : n.table ≡ m.table
  pub share : n.share ≡ m.share
  pub pins_left : n.pins_left ≡ m.pins_left

-- as many versions as there are pages are live
abbrev pub HasAllVersions : EditorMeaning → Type 0
HasAllVersions m = length m.older + 1 ≡ m.sizes.versions

abbrev pub HasWholeLog : EditorMeaning → Type 0
HasWholeLog m = length m.log ≡ m.sizes.log

abbrev pub HasRoom : EditorMeaning → Type 0
HasRoom m = (length m.older + 1 < m.sizes.versions) × (length m.log < m.sizes.log)

-- versions were given up as far as could be, and then the next one was made, for which there was room
abbrev pub Edits : (List ℕ → Type 0) → List ℕ → EditorMeaning → EditorMeaning → Type 0
Edits keeps entry m n = (count : ℕ) × (l : EditorMeaning) × GivesUpAll count m l × HasRoom l × MakesVersion keeps entry l n

-- Why an edit is refused

-- the oldest version stays, and is told with the pins taken on it and those that were dropped
pub record IsFullOf (version taken released : ℕ) (m n : EditorMeaning) : Type 0 where
  pub count : ℕ
  pub before : EditorMeaning
  pub gave_up : GivesUp count m before
  pub stays : KeepsOldest before n released
  pub version_is : stays.oldest.live.version ≡ version
  pub taken_is : stays.oldest.taken ≡ taken
  pub all_live : HasAllVersions n

-- versions were given up as far as could be; then there was room for one more, but none in the log
pub record IsFullLog (entries : ℕ) (m n : EditorMeaning) : Type 0 where
  pub count : ℕ
  pub gave_up : GivesUpAll count m n
  pub some_left : ¬ (HasAllVersions n)
  pub whole_log : HasWholeLog n
  pub entries_are : entries ≡ length n.log

abbrev pub Refuses : EditError → EditorMeaning → EditorMeaning → Type 0
Refuses (VersionsFull version taken released) m n = IsFullOf version taken released m n
Refuses (LogFull entries) m n = IsFullLog entries m n

-- the log, the newest version and its page are as they were
pub record IsSameVersion (m n : EditorMeaning) : Type 0 where
  pub log : n.log ≡ m.log
  pub newest : n.newest ≡ m.newest
