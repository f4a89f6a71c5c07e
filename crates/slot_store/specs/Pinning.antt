-- What a pass does when it pins the current version and when it drops the pin, by the steps that it adds.
use Rattle.std.specs.Prelude.{◌≡◌, ℕ, ◌+◌, ◌≤◌, List, [], ◌∷◌, ◌++◌, length, None}
use Rattle.pin_rule.specs.declared.view.Step.{Step}
use Rattle.pin_rule.specs.Layout.{version_named, page_named}
use Rattle.pin_rule.specs.Lists.{Each}
use Rattle.pin_rule.specs.Views.{IsPrefix}
use Rattle.pin_rule.specs.Steps.{pinned, unpinned}
use Rattle.slot_store.specs.Meaning.{Meaning, PassMeaning}
use Rattle.slot_store.specs.Logs.{IsLogLoad}

-- the user stays the same in all but its pin, its log and its steps
pub record IsSameUser (p : PassMeaning) (m : Meaning) : Type 0 where
  pub sizes : m.sizes ≡ p.sizes
  pub table : m.table ≡ p.table
  pub share : m.share ≡ p.share

-- one pin was taken; the word that it met names the version and the page, and then log words alone were loaded
pub record TakesPin (p : PassMeaning) (m : Meaning) : Type 0 where
  pub user : IsSameUser p m
  pub met : ℕ
  pub loads : List Step
  pub steps : m.steps ≡ p.steps ++ pinned met ∷ loads
  pub are_loads : Each IsLogLoad loads
  pub version : length m.log ≡ version_named met
  pub page : m.page ≡ page_named met
  pub not_behind : length p.log ≤ length m.log
  pub log : IsPrefix p.log m.log
  pub left : m.pins_left + 1 ≡ p.pins_left
  pub own : m.own ≡ None

-- the pin was dropped on the page's release word
pub record DropsPin (m : Meaning) (p : PassMeaning) : Type 0 where
  pub user : IsSameUser p m
  pub met : ℕ
  pub steps : p.steps ≡ m.steps ++ unpinned m.sizes m.page met ∷ []
  pub log : p.log ≡ m.log
  pub left : p.pins_left ≡ m.pins_left
