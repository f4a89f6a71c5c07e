-- When a seat may publish its row: it has written a whole row that fits, and has met other keys at all places of the key's path before this one.
use Rattle.std.specs.Prelude.{◌≡◌, ◌≢◌, ℕ, ◌+◌, ◌<◌, ◌≤◌, List, Some}
use Rattle.pin_rule.specs.declared.sizes.Sizes.{Sizes}
use Rattle.pin_rule.specs.declared.view.View.{View}
use Rattle.pin_rule.specs.declared.view.OwnRow.{OwnRow}
use Rattle.pin_rule.specs.declared.view.EntryFact.{EntryFact}
use Rattle.pin_rule.specs.Lists.{In}
use Rattle.pin_rule.specs.Rows.{key_of, content_of, on_path}
use Rattle.pin_rule.specs.Told.{KnowsWord}

-- the view knows a row at this place whose length of the key, or a word of the key, is not that of g
abbrev pub KnowsOther : View → ℕ → (ℕ → ℕ) → ℕ → Type 0
KnowsOther v version g place =
    (row : ℕ) × (index : ℕ) × (word : ℕ) × In (let e : EntryFact = record { version = version; place = place; row = row } in e) v.entries
    × KnowsWord v version row index word × (index < 2 + g 0) × (index ≢ 1) × (word ≢ g index)

pub record IsReady (fits : List ℕ → Type 0) (z : Sizes) (v : View) (version : ℕ) (o : OwnRow) (g : ℕ → ℕ) (place : ℕ) : Type 0 where
  pub owns : v.own ≡ Some o
  pub room : 2 + (g 0 + g 1) ≤ z.width
  pub wrote : (index : ℕ) → index < 2 + (g 0 + g 1) → In (index, g index) o.wrote
  pub fitting : fits (content_of g)
  pub step : ℕ
  pub step_in : step < z.places
  pub at : on_path z (key_of g) step ≡ place
  pub passed : (before : ℕ) → before < step → KnowsOther v version g (on_path z (key_of g) before)
