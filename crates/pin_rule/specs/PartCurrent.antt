-- The parts of the rule on CUR, the log and what is in the making, and on the views' logs.
use Rattle.std.specs.Prelude.{◌≡◌, ℕ, ◌+◌, ◌<◌, ◌≤◌, List, [], ◌∷◌, ◌++◌, length, take, slice_index, Some}
use mathlib.Core.Option as maybe
use lib.ListN.{get_elem?}
use Rattle.pin_rule.specs.declared.sizes.Sizes.{Sizes}
use Rattle.pin_rule.specs.declared.content.Entry.{Entry}
use Rattle.pin_rule.specs.declared.view.View.{View}
use Rattle.pin_rule.specs.declared.view.Live.{Live}
use Rattle.pin_rule.specs.declared.view.Role.{Role}
use Rattle.pin_rule.specs.declared.view.Making.{Making}
use Rattle.pin_rule.specs.Layout.{logged, entry, naming}
use Rattle.pin_rule.specs.Views.{IsLiveVersion, IsPrefix}

-- CUR names the newest version and its page, and counts the pins taken on it
abbrev pub current_of : Role → ℕ → ℕ
current_of role taken = naming role.newest.version role.newest.page + taken

-- the log with these words as one more entry, where they are so many as an entry has
abbrev pub IsNextLog : List Entry → List ℕ → List Entry → Type 0
IsNextLog log words next = (length words ≡ 32) × (e : Entry) × (e.words ≡ words) × (next ≡ log ++ e ∷ [])

-- what was written of the next entry and of its page stands
pub record IsMaking (z : Sizes) (words : List ℕ) (log : List Entry) (m : Making) : Type 0 where
  pub room : length log < z.log
  pub page_in : m.page < z.versions
  pub entry_in : length m.entry ≤ 32
  pub entry_is : (index : ℕ) → index < length m.entry → logged z words (length log) index ≡ slice_index m.entry index
  pub places_in : length m.places ≤ z.places
  -- places are written once the entry is whole
  pub places_after : 0 < length m.places → length m.entry ≡ 32
  pub places_are : (place : ℕ) → place < length m.places → entry z words m.page place ≡ slice_index m.places place

pub record IsCurrent (lawful : List Entry → Type 0) (z : Sizes) (words : List ℕ) (log : List Entry) (role : Role) (taken : ℕ) : Type 0 where
  pub cur : slice_index words 0 ≡ current_of role taken
  pub version : length log ≡ role.newest.version
  pub log_in : length log ≤ z.log
  pub log_wide : (i : ℕ) (e : Entry) → get_elem? log i ≡ maybe.some e → length e.words ≡ 32
  pub log_is : (i index : ℕ) (e : Entry) → get_elem? log i ≡ maybe.some e → index < 32 → logged z words i index ≡ slice_index e.words index
  pub lawful_log : (l : Live) → IsLiveVersion role l → lawful (take l.version log)
  pub making : (m : Making) → role.making ≡ Some m → IsMaking z words log m
  pub next_log : (m : Making) (next : List Entry) → role.making ≡ Some m → IsNextLog log m.entry next → lawful next

-- the word of the log's entry
abbrev pub IsLogWord : List Entry → ℕ → ℕ → ℕ → Type 0
IsLogWord log entry index word = (e : Entry) × (get_elem? log entry ≡ maybe.some e) × (slice_index e.words index ≡ word)

-- a view's log is the beginning of the log, and the words that it has loaded of the next entry are the log's
pub record KnowsLog (log : List Entry) (v : View) : Type 0 where
  pub prefix : IsPrefix v.log log
  pub few : length v.log_words < 32
  pub words : (index : ℕ) → index < length v.log_words → IsLogWord log (length v.log) index (slice_index v.log_words index)
