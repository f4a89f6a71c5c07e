-- What the states ask of a graph.
use Rattle.std.specs.Prelude.{◌≡◌, ◌⊎◌, ◌≤◌, ℕ, List, length, Some, slice_get, Contains}
use Rattle.item_sets.specs.declared.item.Item.{Item}
use Rattle.live_graph.specs.Meaning.{GraphMeaning}
use Rattle.live_graph.specs.Cost.{RisesAsCost}

-- all of the graph stands but the kernels that it was asked for, and what they cost
pub record StandsButKernels {Base : Type 0} (old new : GraphMeaning Base) : Type 0 where
  pub grammar : new.grammar ≡ old.grammar
  pub base : new.base ≡ old.base
  pub scans : new.scans ≡ old.scans

-- the kernel is that of a state past the old ones
abbrev pub IsNew : (old new : List (List Item)) → List Item → Type 0
IsNew old new kernel = (number : ℕ) × (length old ≤ number) × (slice_get new number ≡ Some kernel)

-- beside what it was asked for before, the graph was asked for exactly the kernels of the states that are new, and the steps rose as its cost
pub record AsksNew {Base : Type 0} (old new : List (List Item)) (graph graph' : GraphMeaning Base) (before after : ℕ) : Type 0 where
  pub kept : (kernel : List Item) → Contains graph.kernels.keys kernel → Contains graph'.kernels.keys kernel
  pub asked : (kernel : List Item) → IsNew old new kernel → Contains graph'.kernels.keys kernel
  pub within : (kernel : List Item) → Contains graph'.kernels.keys kernel → Contains graph.kernels.keys kernel ⊎ IsNew old new kernel
  pub rises : RisesAsCost graph graph' before after
