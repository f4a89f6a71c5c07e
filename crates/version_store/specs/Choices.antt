-- Where the rows that are kept stand in the page in the making.
use Rattle.std.specs.Prelude.{◌≡◌, ◌⊎◌, ℕ, zero, suc, ◌<◌, ◌≤◌, List, [], ◌∷◌, ◌++◌, length, slice_index, slice_set, Option, Some, None}
use Rattle.pin_rule.specs.declared.sizes.Sizes.{Sizes}
use Rattle.pin_rule.specs.declared.view.View.{View}
use Rattle.pin_rule.specs.declared.view.Role.{Role}
use Rattle.pin_rule.specs.declared.view.KnownPlace.{KnownPlace}
use Rattle.pin_rule.specs.NextVersion.{IsPast}
use Rattle.version_store.specs.declared.current.Current.{Current}
use Rattle.pin_rule.specs.Layout.{version_named, page_named, taken_named}
use Rattle.pin_rule.specs.Lists.{In}
use Rattle.pin_rule.specs.Views.{whole}
use Rattle.pin_rule.specs.Making.{rows_of}
use Rattle.version_store.specs.Graphs.{rows_known, IsWholeKnown}
use Rattle.pin_rule.specs.PartLive.{known_release}
use Rattle.version_store.specs.Roles.{role_of}
use Rattle.version_store.specs.Rows.{Found, IsWholeRow}
use Rattle.version_store.specs.Edits.{KeepsExactly, edit_steps}
use Rattle.version_store.specs.Stages.{IsFoundAt, key_in, ReadsRow, Stays}

-- how many places are not empty
abbrev pub count_taken : List ℕ → ℕ
count_taken [] = 0
count_taken (zero ∷ ns) = count_taken ns
count_taken (suc n ∷ ns) = suc (count_taken ns)

-- the word was put at the first empty place of the key's path
abbrev pub PutsAtFirst : Sizes → List ℕ → ℕ → List ℕ → List ℕ → Type 0
PutsAtFirst z key word old new = (place : ℕ) × (place < z.places) × (slice_index old place ≡ 0) × (new ≡ slice_set old place word) × IsPast z old key place

-- the row was read whole and asked about, and where it is kept it was put at its place
pub record ChoosesRow (keeps next Asks : List ℕ → Type 0) (c : Current) (v w : View) (row : ℕ) (old new : List ℕ) : Type 0 where
  pub words : List ℕ
  pub is_whole : IsWholeRow words
  pub reads : ReadsRow c v w row words
  pub asked : Asks words
  pub chosen : (keeps words × next words × PutsAtFirst c.sizes (key_in words) (suc row) old new) ⊎ ((¬ (keeps words)) × (new ≡ old))

-- of the rows found, those that are kept stand on the paths of their keys, and no others
pub record HasChosen (keeps next : List ℕ → Type 0) (z : Sizes) (found : List (Option Found)) (places : List ℕ) : Type 0 where
  pub room : length places ≡ z.places
  pub few : count_taken places ≤ length found
  pub kept : (p row : ℕ) → slice_index places p ≡ suc row → (o : ℕ) × (f : Found) × IsFoundAt found o f × (f.row ≡ row) × keeps f.words × next f.words
      × IsPast z places (key_in f.words) p
  pub every : (o : ℕ) (f : Found) → IsFoundAt found o f → keeps f.words → (p : ℕ) × (p < z.places) × (slice_index places p ≡ suc f.row)
  pub once : (p q row : ℕ) → slice_index places p ≡ suc row → slice_index places q ≡ suc row → p ≡ q

-- The whole edit

-- the role once the next version, with these places, is the newest; the word met counts the pins taken on the version before
abbrev pub next_role : Role → Current → List ℕ → ℕ → Role
next_role r c places met = record r {
  newest = record { version = suc c.version; page = c.next; base = known_release r.released c.next; carried = rows_of places };
  older = record { live = r.newest; taken = taken_named met } ∷ r.older;
  making = None;
}

-- each place of the new page is known, and its rows are those of the page before that are kept
pub record KeepsRows (keeps : List ℕ → Type 0) (z : Sizes) (ks ls : List KnownPlace) : Type 0 where
  pub all_known : IsWholeKnown z ls
  pub kept : (row : List ℕ) → In row (rows_known ls) → In row (rows_known ks) × keeps row
  pub every : (row : List ℕ) → In row (rows_known ks) → keeps row → In row (rows_known ls)

-- the next version was made with this entry and the rows that are kept; w is the view after the swap, which met a word
pub record MakesNext (keeps : List ℕ → Type 0) (c : Current) (v w : View) (entry places : List ℕ) (met : ℕ) : Type 0 where
  pub found : List (Option Found)
  pub stays : Stays v w
  pub steps : w.steps ≡ v.steps ++ (edit_steps c.sizes c.version c.page c.next entry found places met)
  pub log : w.log ≡ v.log ++ record { words = entry } ∷ []
  pub every_place : length found ≡ c.sizes.places
  pub whole_rows : (f : Found) → In (Some f) found → IsWholeRow f.words
  pub every_new_place : length places ≡ c.sizes.places
  pub kept : KeepsExactly keeps found places
  pub rows_in : (place row : ℕ) → slice_index places place ≡ suc row → row < c.sizes.rows
  pub version_before : version_named met ≡ c.version
  pub page_before : page_named met ≡ c.page
  pub role : w.role ≡ Some (next_role (role_of v) c places met)
  -- with the whole share the rows of the page were known, and those of the new one are
  pub graph : v.share ≡ whole → IsWholeKnown c.sizes v.known → KeepsRows keeps c.sizes v.known w.known
