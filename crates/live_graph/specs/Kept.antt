-- What a graph of one user keeps and means.
use Rattle.std.specs.Prelude.{◌≡◌, ℕ, List, Contains, Some, slice_get}
use Rattle.edit_log.specs.History.{Grammar}
use Rattle.item_sets.specs.declared.item.Item.{Item}
use Rattle.item_sets.specs.declared.expansion.Expansion.{Expansion}
use Rattle.item_sets.specs.Expansions.{IsExpansionOf}
use Rattle.isg_states.specs.declared.scan_key.ScanKey.{ScanKey}
use Rattle.isg_states.specs.declared.ranges.ScanExpansion.{ScanExpansion}
use Rattle.isg_states.specs.Expansion.{IsScanExpansionOf}
use Rattle.live_graph.specs.Meaning.{Asked, GraphMeaning}

-- the grammar, and the states and kernels that the one user asked for
pub record Alone : Type 0 where
  pub grammar : Grammar
  pub scans : List ScanKey
  pub kernels : List (List Item)

-- these keys were asked for, and the graph expanded all of them itself
abbrev pub all_own : {Key : Type 0} → List Key → Asked Key
all_own keys = record { keys = keys; own = keys }

-- what the graph of one user means: it expanded itself whatever it was asked for, and stands on nothing
abbrev pub means_alone : Alone → GraphMeaning (Unit {0})
means_alone graph = record { grammar = graph.grammar; scans = all_own graph.scans; kernels = all_own graph.kernels; base = tt }

-- each state is kept with its expansion
abbrev pub HoldsScans : Grammar → List (ScanKey × ScanExpansion) → Type 0
HoldsScans grammar kept = (key : ScanKey) (expansion : ScanExpansion) → Contains kept (key, expansion) → IsScanExpansionOf grammar key expansion.ranges

-- each kernel is kept with its expansion
abbrev pub HoldsKernels : Grammar → List (List Item × Expansion) → Type 0
HoldsKernels grammar kept = (key : List Item) (expansion : Expansion) → Contains kept (key, expansion) → IsExpansionOf grammar.rules key expansion

-- at this place the state stands with its expansion
abbrev pub StandsScan : Grammar → List (ScanKey × ScanExpansion) → ScanKey → (place : ℕ) → Type 0
StandsScan grammar kept key place =
    (expansion : ScanExpansion) × (slice_get kept place ≡ Some (key, expansion)) × IsScanExpansionOf grammar key expansion.ranges

-- at this place the kernel stands with its expansion
abbrev pub StandsKernel : Grammar → List (List Item × Expansion) → List Item → (place : ℕ) → Type 0
StandsKernel grammar kept key place = (expansion : Expansion) × (slice_get kept place ≡ Some (key, expansion)) × IsExpansionOf grammar.rules key expansion
