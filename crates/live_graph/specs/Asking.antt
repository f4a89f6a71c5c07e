-- What it does to a graph to ask it for a key.
use Rattle.std.specs.Prelude.{◌≡◌, ◌⊎◌, ℕ, ◌+◌, List, [], ◌∷◌, ◌++◌, Contains}
use Rattle.item_sets.specs.declared.item.Item.{Item}
use Rattle.item_sets.specs.Expansions.{IsCost}
use Rattle.isg_states.specs.declared.scan_key.ScanKey.{ScanKey}
use Rattle.isg_states.specs.Expansion.{IsScanCost}
use Rattle.live_graph.specs.Meaning.{Asked, GraphMeaning}

-- the key is the last of the new ones, unless it was among the old ones, which then are all
abbrev pub Joins : {Key : Type 0} → List Key → Key → List Key → Type 0
Joins old key new = (Contains old key × (new ≡ old)) ⊎ ((Contains old key → ⊥) × (new ≡ old ++ key ∷ []))

-- no step was taken and no key expanded; or the key was, which was not asked before, and its cost is the steps that were taken
abbrev pub Works : {Key : Type 0} → (Key → ℕ → Type 0) → Asked Key → Key → Asked Key → (before after : ℕ) → Type 0
Works Costs old key new before after = ((new.own ≡ old.own) × (after ≡ before))
    ⊎ ((Contains old.keys key → ⊥) × (new.own ≡ old.own ++ key ∷ []) × ((cost : ℕ) × Costs key cost × (after ≡ before + cost)))

-- the key was asked
pub record Asks {Key : Type 0} (Costs : Key → ℕ → Type 0) (old : Asked Key) (key : Key) (new : Asked Key) (before after : ℕ) : Type 0 where
  pub joins : Joins old.keys key new.keys
  pub works : Works Costs old key new before after

-- the graph was asked for a state of the scanner, and all else stands
pub record AsksScan {Base : Type 0} (old : GraphMeaning Base) (key : ScanKey) (new : GraphMeaning Base) (before after : ℕ) : Type 0 where
  pub grammar : new.grammar ≡ old.grammar
  pub base : new.base ≡ old.base
  pub kernels : new.kernels ≡ old.kernels
  pub asks : Asks (IsScanCost old.grammar) old.scans key new.scans before after

-- the graph was asked for a kernel, and all else stands
pub record AsksKernel {Base : Type 0} (old : GraphMeaning Base) (key : List Item) (new : GraphMeaning Base) (before after : ℕ) : Type 0 where
  pub grammar : new.grammar ≡ old.grammar
  pub base : new.base ≡ old.base
  pub scans : new.scans ≡ old.scans
  pub asks : Asks (IsCost old.grammar.rules) old.kernels key new.kernels before after
