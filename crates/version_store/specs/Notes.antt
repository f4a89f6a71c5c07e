-- What the editor keeps of the live versions, beside what its view has of them.
use Rattle.std.specs.Prelude.{◌≡◌, ℕ, ◌<◌, List, slice_index}
use Rattle.pin_rule.specs.declared.view.Live.{Live}
use Rattle.pin_rule.specs.declared.view.Older.{Older}
use Rattle.pin_rule.specs.declared.view.Role.{Role}
use Rattle.pin_rule.specs.Lists.{In, is_in}
use Rattle.pin_rule.specs.PartLive.{known_release}
use Rattle.version_store.specs.declared.lives.Lives.{Lives}
use Rattle.version_store.specs.Marks.{is_marked}
use Rattle.version_store.specs.LivePages.{live_noted, oldest_first, lives_in}

-- the notes are of these versions, newest first, and of these release words
pub record IsNoted (newest : Live) (older : List Older) (released : List (ℕ × ℕ)) (l : Lives) : Type 0 where
  pub newest_is : live_noted newest ≡ l.newest
  pub older_is : oldest_first older ≡ l.older.items
  pub releases_are : (page : ℕ) → page < 16 → slice_index l.releases page ≡ known_release released page
  pub carried_are : (k : Live) (row : ℕ) → In k (lives_in newest older) → row < l.carried.sizes.rows
      → is_marked l.carried.sizes l.carried.marks.items k.page row ≡ is_in row k.carried

abbrev pub IsNotedIn : Role → Lives → Type 0
IsNotedIn r l = IsNoted r.newest r.older r.released l
