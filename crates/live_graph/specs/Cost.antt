-- What a graph's expansions cost.
use Rattle.std.specs.Prelude.{◌≡◌, ℕ, ◌+◌, List, [], ◌∷◌}
use Rattle.item_sets.specs.Expansions.{IsCost}
use Rattle.isg_states.specs.Expansion.{IsScanCost}
use Rattle.live_graph.specs.Meaning.{GraphMeaning}

-- what all the keys cost together
abbrev pub IsSum : {Key : Type 0} → (Key → ℕ → Type 0) → List Key → ℕ → Type 0
IsSum Costs [] sum = sum ≡ 0
IsSum Costs (key ∷ keys) sum = (one others : ℕ) × Costs key one × IsSum Costs keys others × (sum ≡ one + others)

-- the cost of a graph: that of all the keys that it expanded itself
pub record IsCostOf {Base : Type 0} (graph : GraphMeaning Base) (cost : ℕ) : Type 0 where
  pub scans : ℕ
  pub kernels : ℕ
  pub scans_cost : IsSum (IsScanCost graph.grammar) graph.scans.own scans
  pub kernels_cost : IsSum (IsCost graph.grammar.rules) graph.kernels.own kernels
  pub sum : cost ≡ scans + kernels

-- the count of steps rose as much as the cost of the graph
pub record RisesAsCost {Base : Type 0} (old new : GraphMeaning Base) (before after : ℕ) : Type 0 where
  pub rise : ℕ
  pub steps : after ≡ before + rise
  pub cost : (cost : ℕ) → IsCostOf old cost → IsCostOf new (cost + rise)
