-- When the editor may write a word of the next entry, write a place of the page in the making, and make its version the current one.
use Rattle.std.specs.Prelude.{◌≡◌, ◌≢◌, ◌⊎◌, ℕ, suc, ◌<◌, List, [], ◌∷◌, ◌++◌, length, slice_index, Some, None}
use Rattle.pin_rule.specs.declared.sizes.Sizes.{Sizes}
use Rattle.pin_rule.specs.declared.content.Entry.{Entry}
use Rattle.pin_rule.specs.declared.view.View.{View}
use Rattle.pin_rule.specs.declared.view.Making.{Making}
use Rattle.pin_rule.specs.declared.view.Role.{Role}
use Rattle.pin_rule.specs.Rows.{key_of, content_of, on_path}
use Rattle.pin_rule.specs.Views.{now, pages_taken}
use Rattle.pin_rule.specs.Making.{making_of, next_log}
use Rattle.pin_rule.specs.PartCurrent.{IsNextLog}
use Rattle.pin_rule.specs.Told.{KnowsKey, KnowsContent}

-- the word comes next in the entry after the log
pub record IsEntryWord (lawful : List Entry → Type 0) (v : View) (r : Role) (entry index word : ℕ) : Type 0 where
  pub has : v.role ≡ Some r
  pub entry_is : entry ≡ now v
  pub index_is : index ≡ length (making_of r).entry
  -- at the first word a page is spare
  pub spare : r.making ≡ None → length (pages_taken r) < v.sizes.versions
  -- with the last word the log is lawful
  pub lawful_next : (next : List Entry) → IsNextLog v.log ((making_of r).entry ++ word ∷ []) next → lawful next

-- the view knows the whole row in the newest page, and it fits the next log
abbrev pub IsKeepable : (List Entry → List ℕ → Type 0) → View → Making → ℕ → Type 0
IsKeepable fits v m row = (g : ℕ → ℕ) × KnowsContent v (now v) row g × fits (next_log v.log m) (content_of g)

-- the word comes next in the page in the making: 0, or one that names a row to keep
pub record IsPlaceWord (fits : List Entry → List ℕ → Type 0) (v : View) (r : Role) (m : Making) (page place word : ℕ) : Type 0 where
  pub has : v.role ≡ Some r
  pub making : r.making ≡ Some m
  pub entry_whole : length m.entry ≡ 32
  pub page_is : page ≡ m.page
  pub place_is : place ≡ length m.places
  pub word_is : (word ≡ 0) ⊎ ((row : ℕ) × (word ≡ suc row) × IsKeepable fits v m row)

-- the row was written to the place of the page in the making
abbrev pub IsWritten : Making → ℕ → ℕ → Type 0
IsWritten m place row = (place < length m.places) × (slice_index m.places place ≡ suc row)

-- the place is on the key's path, and no place before it there was left empty
abbrev pub IsPast : Sizes → List ℕ → List ℕ → ℕ → Type 0
IsPast z places key place = (step : ℕ) × (step < z.places) × (on_path z key step ≡ place) ×
    ((before : ℕ) → before < step → slice_index places (on_path z key before) ≢ 0)

-- the entry and the page in the making are whole: each row that was written stands on its key's path, and no key twice
pub record IsWholePage (v : View) (m : Making) : Type 0 where
  pub entry_whole : length m.entry ≡ 32
  pub places_whole : length m.places ≡ v.sizes.places
  -- of each row the words that tell its key are known in the newest page
  pub words : ℕ → ℕ → ℕ
  pub keys : (place row : ℕ) → IsWritten m place row → KnowsKey v (now v) row (words row)
  pub paths : (place row : ℕ) → IsWritten m place row → IsPast v.sizes m.places (key_of (words row)) place
  pub keys_once : (p q a b : ℕ) → IsWritten m p a → IsWritten m q b → key_of (words a) ≡ key_of (words b) → p ≡ q

-- the version comes next, and is whole
pub record IsNewVersion (v : View) (r : Role) (m : Making) (version page : ℕ) : Type 0 where
  pub has : v.role ≡ Some r
  pub making : r.making ≡ Some m
  pub version_is : version ≡ suc (now v)
  pub page_is : page ≡ m.page
  pub whole : IsWholePage v m
