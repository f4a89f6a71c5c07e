-- What a bench is parted into.
use Rattle.std.specs.Prelude.{◌≡◌, ◌≢◌, ℕ, ◌+◌, ◌*◌, ◌/◌, List, [], ◌++◌, length, replicate}
use Rattle.pin_rule.specs.Lists.{Each, total}
use Rattle.pin_rule.specs.Steps.{was_split}
use Rattle.pin_rule.specs.Views.{whole}
use Rattle.slot_store.specs.declared.pass.Pass.{Pass}
use Rattle.slot_store.specs.Meaning.{PassMeaning}
use Rattle.slot_store.specs.Means.{pass_of}
use Rattle.version_store.specs.Meaning.{BenchMeaning, EditorMeaning}

-- a pass that has seen what the bench has, with so many pins, and that made no step yet
pub record IsNewPass (m : BenchMeaning) (pins : ℕ) (p : PassMeaning) : Type 0 where
  pub sizes : p.sizes ≡ m.sizes
  pub table : p.table ≡ m.table
  pub log : p.log ≡ m.log
  pub share : p.share ≢ 0
  pub pins_left : p.pins_left ≡ pins
  pub steps : p.steps ≡ []

-- so many passes with equal pins, and the editor with the rest of the pins and of the share
pub record Parts {C : Type 0} (m : BenchMeaning) (count : ℕ) (e : EditorMeaning) (passes : List (Pass C)) : Type 0 where
  pub many : length passes ≡ count
  pub each : Each (λ (p : Pass C). IsNewPass m (m.pins_left / count) (pass_of p)) passes
  pub pins_left : e.pins_left + count * (m.pins_left / count) ≡ m.pins_left
  pub shares : e.share + total (λ (p : Pass C). (pass_of p).share) passes ≡ whole
  pub share : e.share ≢ 0
  pub sizes : e.sizes ≡ m.sizes
  pub table : e.table ≡ m.table
  pub log : e.log ≡ m.log
  pub older : e.older ≡ []
  pub steps : e.steps ≡ m.steps ++ replicate count was_split
