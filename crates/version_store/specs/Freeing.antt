-- What the freeing of the rows of a page does to the editor's view.
use Rattle.std.specs.Prelude.{◌≡◌, ◌≢◌, ℕ, suc, ◌<◌, List, length, Option, Some, None, cond}
use lib.Dec.{eqb}
use Rattle.pin_rule.specs.declared.sizes.Sizes.{Sizes}
use Rattle.pin_rule.specs.declared.view.View.{View}
use Rattle.pin_rule.specs.declared.view.Role.{Role}
use Rattle.pin_rule.specs.declared.view.GivingUp.{GivingUp}
use Rattle.pin_rule.specs.Lists.{is_in}
use Rattle.pin_rule.specs.GivingUp.{oldest}
use Rattle.version_store.specs.declared.carried_rows.CarriedRows.{CarriedRows}
use Rattle.version_store.specs.declared.leaving.Leaving.{Leaving}
use Rattle.version_store.specs.Marks.{is_marked}
use Rattle.version_store.specs.Stages.{Goes}
use Rattle.version_store.specs.GivingUp.{place_frees, page_frees}

-- the version is given up from a place on; once all places were reached, no more
abbrev pub reached_place : Sizes → GivingUp → ℕ → Option GivingUp
reached_place z g place = cond (eqb place z.places) None (Some record g { reached = place })

abbrev pub role_at : Sizes → Role → GivingUp → ℕ → Role
role_at z r g place = record r { giving_up = reached_place z g place }

-- the editor gives up this version, and reached a place of its page; the marks say which rows were carried into the version that follows
pub record IsGiving (c : Leaving) (carried : CarriedRows) (r : Role) (g : GivingUp) (place : ℕ) (v : View) : Type 0 where
  pub sizes : v.sizes ≡ c.sizes
  pub marked : carried.sizes ≡ c.sizes
  pub share : v.share ≢ 0
  pub unpinned : v.pinned ≡ None
  pub has : v.role ≡ Some (role_at c.sizes r g place)
  pub page_is : g.page ≡ c.page
  pub next_is : (oldest r).page ≡ c.next
  pub apart : r.newest.page ≢ c.page
  pub carried_are : (row : ℕ) → row < c.sizes.rows → is_marked carried.sizes carried.marks.items c.next row ≡ is_in row (oldest r).carried

-- the place was loaded and met a word, and its row was freed if it was not carried
pub record FreesPlace (c : Leaving) (carried : CarriedRows) (r : Role) (g : GivingUp) (place met : ℕ) (v w : View) : Type 0 where
  pub goes : Goes v w (place_frees c.sizes (oldest r).carried c.page place met)
  pub known : w.known ≡ v.known
  pub role : w.role ≡ Some (role_at c.sizes r g (suc place))

-- the same of the first places
pub record FreesPage (c : Leaving) (carried : CarriedRows) (r : Role) (g : GivingUp) (places : List ℕ) (v w : View) : Type 0 where
  pub goes : Goes v w (page_frees c.sizes (oldest r).carried c.page 0 places)
  pub known : w.known ≡ v.known
  pub role : w.role ≡ Some (role_at c.sizes r g (length places))

-- the same of so many places, the first of the page
pub record FreesFirst (c : Leaving) (carried : CarriedRows) (r : Role) (g : GivingUp) (count : ℕ) (v w : View) : Type 0 where
  pub places : List ℕ
  pub many : length places ≡ count
  pub frees : FreesPage c carried r g places v w
