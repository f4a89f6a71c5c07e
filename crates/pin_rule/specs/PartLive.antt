-- The parts of the rule on the live versions and on pins.
use Rattle.std.specs.Prelude.{◌≡◌, ◌≢◌, ◌⊎◌, ℕ, ◌+◌, ◌<◌, ◌≤◌, List, [], ◌∷◌, length, Option, Some, None, cond}
use lib.Dec.{eqb}
use mathlib.Core.Option as maybe
use lib.ListN.{get_elem?}
use Rattle.pin_rule.specs.declared.sizes.Sizes.{Sizes}
use Rattle.pin_rule.specs.declared.content.Entry.{Entry}
use Rattle.pin_rule.specs.declared.view.View.{View}
use Rattle.pin_rule.specs.declared.view.Pin.{Pin}
use Rattle.pin_rule.specs.declared.view.Live.{Live}
use Rattle.pin_rule.specs.declared.view.Older.{Older}
use Rattle.pin_rule.specs.declared.view.Making.{Making}
use Rattle.pin_rule.specs.declared.view.GivingUp.{GivingUp}
use Rattle.pin_rule.specs.declared.view.Role.{Role}
use Rattle.pin_rule.specs.Layout.{release}
use Rattle.pin_rule.specs.Lists.{In, total, sum_to}
use Rattle.pin_rule.specs.Views.{lives, IsLiveVersion, pages_taken, Names}

-- one view has the editor's role, and its log is the log
pub record IsEditor (views : List View) (log : List Entry) (role : Role) : Type 0 where
  pub seat : ℕ
  pub view : View
  pub at : get_elem? views seat ≡ maybe.some view
  pub has : view.role ≡ Some role
  pub log_is : view.log ≡ log
  pub one : (i : ℕ) (v : View) (r : Role) → get_elem? views i ≡ maybe.some v → v.role ≡ Some r → i ≡ seat

-- the version that is being given up is older than each live one, has a page of its own, and a place of it comes next
pub record IsGivenUp (z : Sizes) (role : Role) (g : GivingUp) : Type 0 where
  pub below : (l : Live) → IsLiveVersion role l → g.version < l.version
  pub page_in : g.page < z.versions
  pub apart : (l : Live) → IsLiveVersion role l → l.page ≢ g.page
  pub reached_in : g.reached < z.places

pub record IsVersions (z : Sizes) (role : Role) : Type 0 where
  -- the live versions are consecutive, newest first, and end with the newest
  pub consecutive : (i : ℕ) (l : Live) → get_elem? (lives role) i ≡ maybe.some l → l.version + i ≡ role.newest.version
  pub few : length (lives role) ≤ z.versions
  pub page_in : (l : Live) → IsLiveVersion role l → l.page < z.versions
  pub pages_differ : (a b : Live) → IsLiveVersion role a → IsLiveVersion role b → a.page ≡ b.page → a.version ≡ b.version
  -- while a version is in the making there is room for it, and its page is none of those taken
  pub room : (m : Making) → role.making ≡ Some m → length (pages_taken role) < z.versions
  pub making : (m : Making) → role.making ≡ Some m → ¬ (In m.page (pages_taken role))
  pub given_up : (g : GivingUp) → role.giving_up ≡ Some g → IsGivenUp z role g

-- a view pins only live versions
abbrev pub PinsLive : Role → View → Type 0
PinsLive role v = (p : Pin) → v.pinned ≡ Some p → Names role p

-- the pins taken on a live version
abbrev pub HasTaken : Role → ℕ → Live → ℕ → Type 0
HasTaken role taken l t = ((l ≡ role.newest) × (t ≡ taken)) ⊎ ((o : Older) × In o role.older × (o.live ≡ l) × (o.taken ≡ t))

-- 1 where the version is pinned
abbrev pub pins_on : ℕ → Option Pin → ℕ
pins_on version None = 0
pins_on version (Some p) = cond (eqb p.version version) 1 0

-- the views that pin a version
abbrev pub pinning : List View → ℕ → ℕ
pinning views version = total (λ (v : View). pins_on version v.pinned) views

-- the release word that the editor knows of a page that no live version has; 0 where it knows of none
abbrev pub known_release : List (ℕ × ℕ) → ℕ → ℕ
known_release [] page = 0
known_release (x ∷ xs) page = cond (eqb x.0 page) x.1 (known_release xs page)

pub record Pins (z : Sizes) (words : List ℕ) (views : List View) (role : Role) (taken : ℕ) : Type 0 where
  -- each pin that was taken is held or was dropped
  pub counted : (l : Live) (t : ℕ) → HasTaken role taken l t → release z words l.page + pinning views l.version ≡ l.base + t
  -- release words never fall
  pub from_base : (l : Live) → IsLiveVersion role l → l.base ≤ release z words l.page
  pub released : (page : ℕ) → page < z.versions → ((l : Live) → IsLiveVersion role l → l.page ≢ page) → release z words page ≡ known_release role.released page

-- a pin that is held
abbrev pub one_pin : Option Pin → ℕ
one_pin None = 0
one_pin (Some p) = 1

-- the pins that a view holds or has left
abbrev pub pins_of : View → ℕ
pins_of v = one_pin v.pinned + v.pins_left

-- each pin of the table's life was dropped, is held or is left
abbrev pub Budget : Sizes → List ℕ → List View → Type 0
Budget z words views = sum_to z.versions (release z words) + total pins_of views ≡ z.pins
