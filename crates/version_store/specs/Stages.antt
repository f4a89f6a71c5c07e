-- What the parts of an edit do to the editor's view.
use Rattle.std.specs.Prelude.{◌≡◌, ◌≢◌, ℕ, suc, ◌<◌, List, [], ◌∷◌, ◌++◌, length, slice_index, Option, Some, None}
use mathlib.Core.Option as maybe
use lib.ListN.{get_elem?}
use Rattle.pin_rule.specs.declared.content.Entry.{Entry}
use Rattle.pin_rule.specs.declared.view.View.{View}
use Rattle.pin_rule.specs.declared.view.Step.{Step}
use Rattle.pin_rule.specs.declared.view.Role.{Role}
use Rattle.pin_rule.specs.declared.view.Making.{Making}
use Rattle.pin_rule.specs.declared.view.WordFact.{WordFact}
use Rattle.pin_rule.specs.declared.view.KnownPlace.{KnownPlace}
use Rattle.pin_rule.specs.Lists.{In}
use Rattle.pin_rule.specs.Rows.{key_of}
use Rattle.pin_rule.specs.Views.{whole, now}
use Rattle.pin_rule.specs.Making.{making_of, next_log}
use Rattle.pin_rule.specs.Told.{KnowsPlace, KnowsWord}
use Rattle.version_store.specs.declared.current.Current.{Current}
use Rattle.version_store.specs.Roles.{role_of}
use Rattle.version_store.specs.Learning.{Grown, Shows, Learns}
use Rattle.version_store.specs.Rows.{Found, IsWholeRow}
use Rattle.version_store.specs.Edits.{entry_stores, row_loads, page_loads, page_stores}

-- the editor in the version that is current
pub record IsEditorOf (c : Current) (v : View) : Type 0 where
  pub sizes : v.sizes ≡ c.sizes
  pub share : v.share ≢ 0
  pub unpinned : v.pinned ≡ None
  pub has : v.role ≡ Some (role_of v)
  pub at : c.version ≡ now v
  pub version_is : (role_of v).newest.version ≡ c.version
  pub page_is : (role_of v).newest.page ≡ c.page
  -- no version is being given up, so no load of a place changes the role
  pub keeps_all : (role_of v).giving_up ≡ None

-- what no step of an edit changes
pub record Stays (v w : View) : Type 0 where
  pub sizes : w.sizes ≡ v.sizes
  pub share : w.share ≡ v.share
  pub pins_left : w.pins_left ≡ v.pins_left
  pub log_words : w.log_words ≡ v.log_words
  pub pinned : w.pinned ≡ v.pinned
  pub own : w.own ≡ v.own

-- w is v after some steps before the swap, but for its role and what it knows
pub record Goes (v w : View) (added : List Step) : Type 0 where
  pub stays : Stays v w
  pub log : w.log ≡ v.log
  pub steps : w.steps ≡ v.steps ++ added

-- The entry

abbrev pub with_making : Role → Option Making → Role
with_making r m = record r { making = m }

-- the entry in the making has these words, and is begun with the first
abbrev pub making_entry : ℕ → List ℕ → Option Making
making_entry page [] = None
making_entry page (w ∷ ws) = Some record { page = page; entry = w ∷ ws; places = [] }

pub record WritesEntry (c : Current) (v w : View) (entry : List ℕ) : Type 0 where
  pub goes : Goes v w (entry_stores c.sizes c.version 0 entry)
  pub known : w.known ≡ v.known
  pub role : w.role ≡ Some (with_making (role_of v) (making_entry c.next entry))

-- the log that the entry in the making leads to
abbrev pub next_log_of : View → List Entry
next_log_of v = next_log v.log (making_of (role_of v))

-- The rows of the page

-- these words of the row were read, and are known
pub record ReadsRow (c : Current) (v w : View) (row : ℕ) (words : List ℕ) : Type 0 where
  pub goes : Goes v w (row_loads c.sizes row 0 words)
  pub role : w.role ≡ v.role
  pub entries : w.entries ≡ v.entries
  pub earlier : (x : WordFact) → In x v.words → In x w.words
  pub known : (index : ℕ) → index < length words → KnowsWord w c.version row index (slice_index words index)
  pub grown : Grown v.known w.known
  pub shows : v.share ≡ whole → Shows w.known row words

abbrev pub IsFoundAt : List (Option Found) → ℕ → Found → Type 0
IsFoundAt found place f = get_elem? found place ≡ maybe.some (Some f)

-- the key of a row by its words
abbrev pub key_in : List ℕ → List ℕ
key_in words = key_of (slice_index words)

-- the row that was found is known whole
pub record IsKnownRow (c : Current) (w : View) (place : ℕ) (f : Found) : Type 0 where
  pub at : KnowsPlace w c.version place f.row
  pub words : (index : ℕ) → index < length f.words → KnowsWord w c.version f.row index (slice_index f.words index)
  pub is_whole : IsWholeRow f.words

-- these were found at the first places, no row twice and no key twice
pub record FindsRows (c : Current) (v w : View) (found : List (Option Found)) : Type 0 where
  pub goes : Goes v w (page_loads c.sizes c.page 0 found)
  pub role : w.role ≡ v.role
  pub known : (place : ℕ) (f : Found) → IsFoundAt found place f → IsKnownRow c w place f
  pub rows_in : (place : ℕ) (f : Found) → IsFoundAt found place f → f.row < c.sizes.rows
  -- no fact tells another word of these rows
  pub words_once : (place : ℕ) (f : Found) (index word : ℕ) → IsFoundAt found place f → KnowsWord w c.version f.row index word → index < length f.words
      → word ≡ slice_index f.words index
  -- with the whole share
  pub learns : v.share ≡ whole → Learns v.known w.known found
  pub inside : v.share ≡ whole → 0 < length found → (l : KnownPlace) → In l w.known → l.place < c.sizes.places
  pub alike : v.share ≡ whole → (place : ℕ) (f : Found) (l : KnownPlace) (index word : ℕ) → IsFoundAt found place f → In l w.known → l.met ≡ suc f.row
      → In (index, word) l.words → index < length f.words → word ≡ slice_index f.words index
  pub rows_once : (o p : ℕ) (f g : Found) → IsFoundAt found o f → IsFoundAt found p g → f.row ≡ g.row → o ≡ p
  pub keys_once : (o p : ℕ) (f g : Found) → IsFoundAt found o f → IsFoundAt found p g → key_in f.words ≡ key_in g.words → o ≡ p

-- The page in the making

-- the places of the page in the making were written after those that were there
pub record WritesPage (c : Current) (v w : View) (places : List ℕ) : Type 0 where
  pub goes : Goes v w (page_stores c.sizes c.next 0 places)
  pub known : w.known ≡ v.known
  pub entries : w.entries ≡ v.entries
  pub words : w.words ≡ v.words
  pub role : (m : Making) → (role_of v).making ≡ Some m → m.places ≡ []
      → w.role ≡ Some (with_making (role_of v) (Some (record { page = m.page; entry = m.entry; places = places })))
