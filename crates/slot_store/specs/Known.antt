-- What a user with the whole share knows of the places of the newest page.
use Rattle.std.specs.Prelude.{◌≡◌, ◌≢◌, ℕ, suc, ◌<◌, List, [], ◌∷◌, length, slice_index, Some}
use Rattle.pin_rule.specs.declared.sizes.Sizes.{Sizes}
use Rattle.pin_rule.specs.declared.view.View.{View}
use Rattle.pin_rule.specs.declared.view.Role.{Role}
use Rattle.pin_rule.specs.declared.view.KnownPlace.{KnownPlace}
use Rattle.pin_rule.specs.Lists.{In}
use Rattle.pin_rule.specs.Steps.{without_place}
use Rattle.pin_rule.specs.Told.{HasKeyWords, IsOfOnePage, StandsKnown}
use Rattle.pin_rule.specs.Views.{whole}
use Rattle.slot_store.specs.declared.site.Site.{Site}
use Rattle.slot_store.specs.declared.finding.Glance.{Glance}
use Rattle.slot_store.specs.declared.finding.Glance.TheVariants as glance
use Rattle.slot_store.specs.declared.page.Put.{Put}
use Rattle.slot_store.specs.declared.page.Put.TheVariants as put
use Rattle.slot_store.specs.Keys.{row_of, head_of, TellsKey}

-- How places become known better

-- the place is the same one, with the same word there; more words of its row may be known
abbrev pub IsLater : KnownPlace → KnownPlace → Type 0
IsLater k l = (l.place ≡ k.place) × (l.met ≡ k.met) × ((w : ℕ × ℕ) → In w k.words → In w l.words)

-- place by place
abbrev pub AreLater : List KnownPlace → List KnownPlace → Type 0
AreLater [] [] = Unit {0}
AreLater [] (l ∷ ls) = ⊥
AreLater (k ∷ ks) [] = ⊥
AreLater (k ∷ ks) (l ∷ ls) = IsLater k l × AreLater ks ls

abbrev pub KnowsPlaces : Sizes → List KnownPlace → Type 0
KnowsPlaces z ks = (place : ℕ) → place < z.places → (k : KnownPlace) × In k ks × (k.place ≡ place)

-- with the whole share and all places known, no more than words of the rows there is learned
abbrev pub LearnsWords : View → View → Type 0
LearnsWords v w = v.share ≡ whole → KnowsPlaces v.sizes v.known → AreLater v.known w.known

-- the user has the whole share, its page is that of the one version, and it knows each place there
pub record IsSoleAt (z : Site) (v : View) : Type 0 where
  pub share : v.share ≡ whole
  pub role : Role
  pub has : v.role ≡ Some role
  pub one_version : role.older ≡ []
  pub version : role.newest.version ≡ z.version
  pub page : role.newest.page ≡ z.page
  pub every : KnowsPlaces v.sizes v.known

-- What is known of the rows there

-- a row stands at the place, and has the key
abbrev pub HasKnownKey : List ℕ → KnownPlace → Type 0
HasKnownKey key k = (k.met ≢ 0) × HasKeyWords k.words (slice_index (head_of key))

-- no row that is known has the key
abbrev pub LacksKey : List KnownPlace → List ℕ → Type 0
LacksKey ks key = (k : KnownPlace) → In k ks → ¬ (HasKnownKey key k)

-- a row stands at each place
abbrev pub IsFilled : List KnownPlace → Type 0
IsFilled ks = (k : KnownPlace) → In k ks → k.met ≢ 0

-- the words of a row that stands at some place are these at such indexes, as far as they are known
pub record HoldsWords (ks : List KnownPlace) (P : ℕ → Type 0) (words : List ℕ) : Type 0 where
  pub at : KnownPlace
  pub there : In at ks
  pub taken : at.met ≢ 0
  pub alike : (index a : ℕ) → P index → In (index, a) at.words → a ≡ slice_index words index

abbrev pub HoldsRow : List KnownPlace → List ℕ → Type 0
HoldsRow ks words = HoldsWords ks (λ index. index < length words) words

abbrev pub HoldsKey : List KnownPlace → List ℕ → Type 0
HoldsKey ks key = HoldsWords ks (TellsKey key) (head_of key)

-- a row with all these words was put to a place that was empty
pub record PutsRow (z : Sizes) (ks ls : List KnownPlace) (words : List ℕ) : Type 0 where
  pub before : List KnownPlace
  pub later : AreLater ks before
  pub place : ℕ
  pub row : ℕ
  pub inside : place < z.places
  pub wrote : List (ℕ × ℕ)
  pub empty : (k : KnownPlace) → In k before → k.place ≡ place → k.met ≡ 0
  pub written : (index : ℕ) → index < length words → In (index, slice_index words index) wrote
  pub is : ls ≡ record { place = place; met = suc row; words = wrote } ∷ without_place place before

-- What a look and a publication say of what was known before and is known after

abbrev pub GlanceKnows : List KnownPlace → List KnownPlace → List ℕ → List ℕ → Glance → Type 0
GlanceKnows ks ls key payload (glance.Found count) = HoldsRow ls (row_of key payload)
GlanceKnows ks ls key payload (glance.Initial place) = LacksKey ks key
GlanceKnows ks ls key payload glance.PageFull = LacksKey ks key × IsFilled ks

abbrev pub PutKnows : Sizes → List KnownPlace → List KnownPlace → List ℕ → List ℕ → Put → Type 0
PutKnows z ks ls key payload put.Made = IsOfOnePage z ls × LacksKey ks key × PutsRow z ks ls (row_of key payload)
PutKnows z ks ls key payload put.Already = IsOfOnePage z ls × AreLater ks ls × HoldsKey ls key
PutKnows z ks ls key payload put.PageFull = IsOfOnePage z ls × AreLater ks ls × LacksKey ks key × IsFilled ks
PutKnows z ks ls key payload put.PoolFull = IsOfOnePage z ls × AreLater ks ls × ((row : ℕ) → row < z.rows → StandsKnown z ks row)
PutKnows z ks ls key payload put.TooWide = ls ≡ ks
