-- The rule of the table, in named parts: what stands in the words whatever the seats do, and that each view is true of them.
use Rattle.std.specs.Prelude.{◌≡◌, ◌≢◌, ℕ, List, length, take}
use Rattle.pin_rule.specs.declared.sizes.Sizes.{Sizes}
use Rattle.pin_rule.specs.declared.content.Entry.{Entry}
use Rattle.pin_rule.specs.declared.view.View.{View}
use Rattle.pin_rule.specs.declared.view.Live.{Live}
use Rattle.pin_rule.specs.declared.view.Role.{Role}
use Rattle.pin_rule.specs.Layout.{word_count}
use Rattle.pin_rule.specs.Views.{EachView, IsLiveVersion}
use Rattle.pin_rule.specs.Pages.{IsPage}
use Rattle.pin_rule.specs.PartCurrent.{IsCurrent, KnowsLog}
use Rattle.pin_rule.specs.PartLive.{IsEditor, IsVersions, PinsLive, Pins, Budget}
use Rattle.pin_rule.specs.PartClaims.{Claims}
use Rattle.pin_rule.specs.PartCarried.{Carried}
use Rattle.pin_rule.specs.PartFacts.{Knows, KnowsWhole}
use Rattle.pin_rule.specs.PartShares.{Shares}

-- a view that has a share has the table's sizes
abbrev pub IsMeasured : Sizes → View → Type 0
IsMeasured z v = v.share ≢ 0 → v.sizes ≡ z

-- the page of each live version is a page for the log up to it
abbrev pub ArePages : (List Entry → List ℕ → Type 0) → Sizes → List ℕ → List Entry → Role → Type 0
ArePages fits z words log role = (l : Live) → IsLiveVersion role l → IsPage z words (fits (take l.version log)) l.page

pub record Lawful (lawful : List Entry → Type 0) (fits : List Entry → List ℕ → Type 0) (z : Sizes) (words : List ℕ) (views : List View) : Type 0 where
  pub long : length words ≡ word_count z
  pub sizes : EachView views (IsMeasured z)
  -- the log, the editor's role, and the pins taken on the newest version
  pub log : List Entry
  pub role : Role
  pub taken : ℕ
  pub editor : IsEditor views log role
  pub current : IsCurrent lawful z words log role taken
  pub logs : EachView views (KnowsLog log)
  pub live : IsVersions z role
  pub pinned : EachView views (PinsLive role)
  pub pins : Pins z words views role taken
  pub budget : Budget z words views
  pub pages : ArePages fits z words log role
  pub claims : Claims z words views role
  pub carried : Carried fits z words log role
  pub facts : EachView views (Knows z words role)
  pub shares : Shares views
  pub known : EachView views (KnowsWhole z words role)
