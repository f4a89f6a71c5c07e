-- The part of the rule on rows that stand in several pages.
use Rattle.std.specs.Prelude.{◌≡◌, ℕ, suc, ◌<◌, ◌≤◌, List, length, slice_index, Some}
use Rattle.pin_rule.specs.declared.sizes.Sizes.{Sizes}
use Rattle.pin_rule.specs.declared.content.Entry.{Entry}
use Rattle.pin_rule.specs.declared.view.Live.{Live}
use Rattle.pin_rule.specs.declared.view.Making.{Making}
use Rattle.pin_rule.specs.declared.view.GivingUp.{GivingUp}
use Rattle.pin_rule.specs.declared.view.Role.{Role}
use Rattle.pin_rule.specs.Layout.{entry, row_at}
use Rattle.pin_rule.specs.Lists.{In}
use Rattle.pin_rule.specs.Rows.{content_of}
use Rattle.pin_rule.specs.Views.{IsLiveVersion}
use Rattle.pin_rule.specs.Pages.{IsHeld, IsLeft}
use Rattle.pin_rule.specs.PartCurrent.{IsNextLog}

pub record Carried (fits : List Entry → List ℕ → Type 0) (z : Sizes) (words : List ℕ) (log : List Entry) (role : Role) : Type 0 where
  -- a row of two live pages was carried into each version after the first of them, up to the second
  pub between : (a b c : Live) (row : ℕ) → IsLiveVersion role a → IsLiveVersion role b → IsLiveVersion role c → a.version < b.version → b.version ≤ c.version
      → IsHeld z words a.page row → IsHeld z words c.page row → In row b.carried
  -- the version that is being given up counts as the first
  pub after_left : (g : GivingUp) (b c : Live) (row : ℕ) → role.giving_up ≡ Some g → IsLiveVersion role b → IsLiveVersion role c → b.version ≤ c.version
      → IsLeft z words g row → IsHeld z words c.page row → In row b.carried
  -- each entry of its page names a row, and no row stands twice in it
  pub range : (g : GivingUp) (place row : ℕ) → role.giving_up ≡ Some g → place < z.places → entry z words g.page place ≡ suc row → row < z.rows
  pub once : (g : GivingUp) (p q row : ℕ) → role.giving_up ≡ Some g → p < z.places → q < z.places → entry z words g.page p ≡ suc row
      → entry z words g.page q ≡ suc row → p ≡ q
  -- what was carried into a version stands in its page
  pub stands : (l : Live) (row : ℕ) → IsLiveVersion role l → In row l.carried → IsHeld z words l.page row
  -- the page in the making has only rows of the newest page that fit the next log
  pub kept : (m : Making) (next : List Entry) (place row : ℕ) → role.making ≡ Some m → IsNextLog log m.entry next → place < length m.places
      → slice_index m.places place ≡ suc row
      → IsHeld z words role.newest.page row × fits next (content_of (row_at z words row))
