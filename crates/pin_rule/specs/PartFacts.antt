-- The part of the rule on what views know: each fact that speaks of a live version stands.
use Rattle.std.specs.Prelude.{◌≡◌, ℕ, suc, ◌<◌, ◌≤◌, List, Some}
use Rattle.pin_rule.specs.declared.sizes.Sizes.{Sizes}
use Rattle.pin_rule.specs.declared.view.View.{View}
use Rattle.pin_rule.specs.declared.view.Live.{Live}
use Rattle.pin_rule.specs.declared.view.Role.{Role}
use Rattle.pin_rule.specs.declared.view.GivingUp.{GivingUp}
use Rattle.pin_rule.specs.declared.view.EntryFact.{EntryFact}
use Rattle.pin_rule.specs.declared.view.WordFact.{WordFact}
use Rattle.pin_rule.specs.declared.view.KnownPlace.{KnownPlace}
use Rattle.pin_rule.specs.Layout.{entry}
use Rattle.pin_rule.specs.Lists.{Each}
use Rattle.pin_rule.specs.Views.{IsLiveVersion, whole}
use Rattle.pin_rule.specs.Pages.{IsHeld}
use Rattle.pin_rule.specs.PartClaims.{StandsIn}

module _ (z : Sizes) (words : List ℕ) (role : Role) where
  -- the page has the entry
  abbrev pub HasEntry : ℕ → EntryFact → Type 0
  HasEntry page e = (e.place < z.places) × (entry z words page e.place ≡ suc e.row)

  pub record EntryStands (e : EntryFact) : Type 0 where
    pub known : e.version ≤ role.newest.version
    pub live : (l : Live) → IsLiveVersion role l → l.version ≡ e.version → HasEntry l.page e
    pub given_up : (g : GivingUp) → role.giving_up ≡ Some g → g.version ≡ e.version → HasEntry g.page e

  pub record WordStands (w : WordFact) : Type 0 where
    pub known : w.version ≤ role.newest.version
    pub live : (l : Live) → IsLiveVersion role l → l.version ≡ w.version → IsHeld z words l.page w.row × StandsIn z words w.row (w.index, w.word)

  abbrev pub Knows : View → Type 0
  Knows v = Each EntryStands v.entries × Each WordStands v.words

  -- what the view with the whole share keeps of the newest page stands
  abbrev pub IsKnown : KnownPlace → Type 0
  IsKnown k = (k.place < z.places) × (entry z words role.newest.page k.place ≡ k.met) × ((row : ℕ) → k.met ≡ suc row → Each (StandsIn z words row) k.words)

  abbrev pub KnowsWhole : View → Type 0
  KnowsWhole v = v.share ≡ whole → Each IsKnown v.known
