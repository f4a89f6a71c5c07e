-- What the reading of log words does to a view.
use Rattle.std.specs.Prelude.{◌≡◌, ◌≢◌, ℕ, List, [], ◌++◌, length, Some}
use mathlib.Core.Option as maybe
use lib.ListN.{get_elem?}
use Rattle.pin_rule.specs.declared.content.Entry.{Entry}
use Rattle.pin_rule.specs.declared.view.View.{View}
use Rattle.pin_rule.specs.declared.view.Step.{Step}
use Rattle.pin_rule.specs.declared.view.Kind.TheVariants as kind
use Rattle.pin_rule.specs.Lists.{Each}
use Rattle.pin_rule.specs.Views.{now, IsPrefix}
use Rattle.slot_store.specs.declared.site.Site.{Site}

abbrev pub IsLogLoad : Step → Type 0
IsLogLoad s = s.kind ≡ kind.LoadLog

-- w is v after some loads of log words; only its log may be longer
pub record LogMoves (v w : View) (added : List Step) : Type 0 where
  pub sizes : w.sizes ≡ v.sizes
  pub share : w.share ≡ v.share
  pub pinned : w.pinned ≡ v.pinned
  pub pins_left : w.pins_left ≡ v.pins_left
  pub own : w.own ≡ v.own
  pub role : w.role ≡ v.role
  pub known : w.known ≡ v.known
  pub steps : w.steps ≡ v.steps ++ added
  pub loads : Each IsLogLoad added
  pub log : IsPrefix v.log w.log

-- a view that has pinned the site's version and knows the log up to an entry
pub record IsBehind (z : Site) (v : View) (entry : ℕ) : Type 0 where
  pub sizes : v.sizes ≡ z.sizes
  pub share : v.share ≢ 0
  pub pinned : v.pinned ≡ Some record { version = z.version; page = z.page }
  pub at : entry ≡ now v
  pub words : v.log_words ≡ []

-- so many words of the next entry were read
pub record ReadsNext (z : Site) (v w : View) (entry index : ℕ) : Type 0 where
  pub added : List Step
  pub moves : LogMoves v w added
  pub at : entry ≡ now w
  pub words : length w.log_words ≡ index

-- the log was read up to an entry
pub record CatchesUp (z : Site) (v w : View) (entry : ℕ) : Type 0 where
  pub added : List Step
  pub moves : LogMoves v w added
  pub behind : IsBehind z w entry

-- the words are those of the log's entry
abbrev pub IsEntryOf : List Entry → ℕ → List ℕ → Type 0
IsEntryOf log entry words = (e : Entry) × (get_elem? log entry ≡ maybe.some e) × (words ≡ e.words)

-- words of known entries were read, and the log stays
pub record ReadsKnown (v w : View) : Type 0 where
  pub added : List Step
  pub moves : LogMoves v w added
  pub log : w.log ≡ v.log
  pub log_words : w.log_words ≡ v.log_words
