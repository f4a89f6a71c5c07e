-- What a bench does when it pins its version alone, and when it drops the pin.
use Rattle.std.specs.Prelude.{◌≡◌, ℕ, ◌+◌, [], ◌∷◌, ◌++◌, length, Some, None}
use Rattle.pin_rule.specs.Layout.{version_named, page_named}
use Rattle.pin_rule.specs.Steps.{pinned, unpinned}
use Rattle.pin_rule.specs.Views.{whole}
use Rattle.slot_store.specs.Meaning.{Meaning}
use Rattle.version_store.specs.Meaning.{BenchMeaning}

-- one pin was taken; the word that it met names the version of the bench and its page, and the page tells the bench's graph
pub record PinsAlone (b : BenchMeaning) (m : Meaning) : Type 0 where
  pub met : ℕ
  pub steps : m.steps ≡ b.steps ++ pinned met ∷ []
  pub version : length b.log ≡ version_named met
  pub page : m.page ≡ page_named met
  pub sizes : m.sizes ≡ b.sizes
  pub log : m.log ≡ b.log
  pub table : m.table ≡ b.table
  pub share : m.share ≡ whole
  pub left : m.pins_left + 1 ≡ b.pins_left
  pub own : m.own ≡ None
  pub graph : m.graph ≡ Some b.graph

-- the pin was dropped on the page's release word, and the bench has the graph that the page told
pub record UnpinsAlone (m : Meaning) (b : BenchMeaning) : Type 0 where
  pub met : ℕ
  pub steps : b.steps ≡ m.steps ++ unpinned m.sizes m.page met ∷ []
  pub sizes : b.sizes ≡ m.sizes
  pub log : b.log ≡ m.log
  pub table : b.table ≡ m.table
  pub left : b.pins_left ≡ m.pins_left
  pub graph : m.graph ≡ Some b.graph
