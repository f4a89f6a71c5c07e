-- Paths of links downwards.
use Rattle.std.specs.Prelude.{◌≡◌, ℕ, zero, suc, ◌+◌, List, [], ◌∷◌, slice_get, Option, None, Some}
use Rattle.gss.specs.declared.stacks.NodeId.{NodeId}
use Rattle.gss.specs.declared.stacks.LinkId.{LinkId}
use Rattle.gss.specs.declared.paths.Path.{Path}
use Rattle.gss.specs.KernelGraphs.{Link}

abbrev pub node_id : ℕ → NodeId
node_id n = record { 0 = n }

-- some link leads from upper down to lower
abbrev pub Leads : List Link → NodeId → NodeId → Type 0
Leads links upper lower = (l : ℕ) × (link : Link) × (slice_get links l ≡ Some link) × (link.upper ≡ upper.0) × (link.lower ≡ lower.0)

-- the nodes stand below each other, so many links down from the first
abbrev pub IsPathDown : List Link → NodeId → ℕ → List NodeId → Type 0
IsPathDown links node zero path = path ≡ node ∷ []
IsPathDown links node (suc n) path = (lower : NodeId) × (rest : List NodeId) × (path ≡ node ∷ rest) × Leads links node lower × IsPathDown links lower n rest

-- the path goes from one node straight down to the other
abbrev pub HasStep : List NodeId → ℕ → ℕ → Type 0
HasStep path upper lower = (k : ℕ) × (slice_get path k ≡ Some (node_id upper)) × (slice_get path (k + 1) ≡ Some (node_id lower))

-- the path goes through the link, if one is named: from its upper end straight down to its lower end
abbrev pub GoesThrough : List Link → Option LinkId → List NodeId → Type 0
GoesThrough links None path = Unit {0}
GoesThrough links (Some through) path = (link : Link) × (slice_get links through.0 ≡ Some link) × HasStep path link.upper link.lower

-- the path has so many links down from the node, and goes through the link, if one is named
pub record IsPathOf (links : List Link) (node : NodeId) (n : ℕ) (through : Option LinkId) (path : Path) : Type 0 where
  pub down : IsPathDown links node n path.nodes
  pub passes : GoesThrough links through path.nodes
