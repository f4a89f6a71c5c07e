-- What giving up versions does, by the steps that it adds.
use Rattle.std.specs.Prelude.{◌≡◌, ◌⊎◌, ℕ, zero, suc, ◌+◌, ◌<◌, List, [], ◌∷◌, ◌++◌, length, cond}
use Rattle.pin_rule.specs.declared.sizes.Sizes.{Sizes}
use Rattle.pin_rule.specs.declared.view.Older.{Older}
use Rattle.pin_rule.specs.declared.view.Step.{Step}
use Rattle.pin_rule.specs.Lists.{is_in}
use Rattle.pin_rule.specs.GivingUp.{last_live}
use Rattle.pin_rule.specs.Steps.{loaded_place, loaded_release, freed_row}
use Rattle.version_store.specs.Meaning.{EditorMeaning}

-- a place is loaded, and the row that stands there is freed where it was not carried
abbrev pub place_frees : Sizes → List ℕ → ℕ → ℕ → ℕ → List Step
place_frees z carried page place zero = loaded_place z page place 0 ∷ []
place_frees z carried page place (suc row) = loaded_place z page place (suc row) ∷ cond (is_in row carried) [] (freed_row z row ∷ [])

-- the places of a page, from one on
abbrev pub page_frees : Sizes → List ℕ → ℕ → ℕ → List ℕ → List Step
page_frees z carried page place [] = []
page_frees z carried page place (n ∷ ns) = place_frees z carried page place n ++ page_frees z carried page (suc place) ns

-- some steps later, with these older versions live
abbrev pub later : EditorMeaning → List Older → List Step → EditorMeaning
later m older added = record m { older = older; steps = m.steps ++ added }

-- The oldest version was given up. The release word of its page was loaded and showed that each pin taken on it was dropped; then it was no longer live, and
-- each place of its page was loaded, and each row there freed that was not carried into the version that follows
pub record GivesUpOldest (m n : EditorMeaning) : Type 0 where
  pub oldest : Older
  pub rest : List Older
  pub places : List ℕ
  pub older : m.older ≡ rest ++ oldest ∷ []
  pub every_place : length places ≡ m.sizes.places
  pub is : n ≡ later m rest (loaded_release m.sizes oldest.live.page (oldest.live.base + oldest.taken)
      ∷ page_frees m.sizes (last_live m.newest rest).carried oldest.live.page 0 places)

-- the oldest version stays: the release word of its page was loaded, and showed that fewer pins were dropped than were taken on it
pub record KeepsOldest (m n : EditorMeaning) (released : ℕ) : Type 0 where
  pub oldest : Older
  pub rest : List Older
  pub older : m.older ≡ rest ++ oldest ∷ []
  pub below : released < oldest.taken
  pub is : n ≡ later m m.older (loaded_release m.sizes oldest.live.page (oldest.live.base + released) ∷ [])

-- so many versions were given up, one after the other
abbrev pub GivesUp : ℕ → EditorMeaning → EditorMeaning → Type 0
GivesUp zero m n = n ≡ m
GivesUp (suc count) m n = (l : EditorMeaning) × GivesUp count m l × GivesUpOldest l n

-- no older version is live, or the oldest one stays
abbrev pub Stops : EditorMeaning → EditorMeaning → ℕ → Type 0
Stops m n released = ((m.older ≡ []) × (n ≡ m)) ⊎ KeepsOldest m n released

-- so many versions were given up, and no more could be
abbrev pub GivesUpAll : ℕ → EditorMeaning → EditorMeaning → Type 0
GivesUpAll count m n = (l : EditorMeaning) × (released : ℕ) × GivesUp count m l × Stops l n released
