-- What stands in a page: entries that name rows, each on the path of its key.
use Rattle.std.specs.Prelude.{◌≡◌, ◌≢◌, ℕ, suc, ◌+◌, ◌<◌, ◌≤◌, List, Some}
use Rattle.pin_rule.specs.declared.sizes.Sizes.{Sizes}
use Rattle.pin_rule.specs.declared.view.Live.{Live}
use Rattle.pin_rule.specs.declared.view.Role.{Role}
use Rattle.pin_rule.specs.declared.view.GivingUp.{GivingUp}
use Rattle.pin_rule.specs.Layout.{claim, entry, row_at}
use Rattle.pin_rule.specs.Rows.{key_of, content_of, on_path}
use Rattle.pin_rule.specs.Views.{IsLiveVersion}

module _ (z : Sizes) (words : List ℕ) where
  -- a place of the page holds the row
  abbrev pub IsHeld : ℕ → ℕ → Type 0
  IsHeld page row = (place : ℕ) × (place < z.places) × (entry z words page place ≡ suc row)

  -- the place is on the key's path, and no place before it is empty
  abbrev pub StandsOnPath : ℕ → ℕ → List ℕ → Type 0
  StandsOnPath page place key = (step : ℕ) × (step < z.places) × (on_path z key step ≡ place) ×
      ((before : ℕ) → before < step → entry z words page (on_path z key before) ≢ 0)

  -- what an entry of a page promises of the row that it names
  pub record IsEntry (fits : List ℕ → Type 0) (page place row : ℕ) : Type 0 where
    pub in_range : row < z.rows
    pub in_use : claim z words row ≡ 1
    pub room : 2 + (row_at z words row 0 + row_at z words row 1) ≤ z.width
    pub fitting : fits (content_of (row_at z words row))
    pub path : StandsOnPath page place (key_of (row_at z words row))

  pub record IsPage (fits : List ℕ → Type 0) (page : ℕ) : Type 0 where
    pub entries : (place row : ℕ) → place < z.places → entry z words page place ≡ suc row → IsEntry fits page place row
    -- no key stands twice; so all places before an entry on its key's path hold other keys
    pub keys_once : (p q a b : ℕ) → p < z.places → q < z.places → entry z words page p ≡ suc a → entry z words page q ≡ suc b
        → key_of (row_at z words a) ≡ key_of (row_at z words b) → p ≡ q

  -- a live page holds the row
  abbrev pub IsHeldLive : Role → ℕ → Type 0
  IsHeldLive role row = (l : Live) × IsLiveVersion role l × IsHeld l.page row

  -- the row stands at a place of the version that is being given up which was not reached yet
  abbrev pub IsLeft : GivingUp → ℕ → Type 0
  IsLeft g row = (place : ℕ) × (place < z.places) × (g.reached ≤ place) × (entry z words g.page place ≡ suc row)

  -- the row is still to be freed: it is left, and no live page holds it
  abbrev pub IsToFree : Role → ℕ → Type 0
  IsToFree role row = (g : GivingUp) × (role.giving_up ≡ Some g) × IsLeft g row × (¬ (IsHeldLive role row))
