-- Nodes and links of a stack graph, by number.
use Rattle.std.specs.Prelude.{◌≡◌, ℕ, ◌<◌, ◌≤◌, List, length, slice_get, Some}
use Rattle.forest.specs.declared.symbols.SymbolId.{SymbolId}
use Rattle.gss.specs.declared.stack_graph.Place.{Place}
use Rattle.gss.specs.declared.stack_graph.Edge.{Edge}

-- nodes and links in the order in which they were added; a link names its ends by their numbers
pub record PlaceGraph : Type 0 where
  pub nodes : List Place
  pub links : List Edge

abbrev pub place_with : ℕ → ℕ → Place
place_with state at = record { state = state; at = at }

abbrev pub edge_of : ℕ → SymbolId → ℕ → ℕ → Edge
edge_of upper symbol lower label = record { upper = upper; symbol = symbol; lower = lower; label = label }

-- some node is of this state and position
abbrev pub HasNode : List Place → ℕ → ℕ → Type 0
HasNode nodes state at = (n : ℕ) × (slice_get nodes n ≡ Some (place_with state at))

-- node n is of this state
abbrev pub IsOfState : List Place → ℕ → ℕ → Type 0
IsOfState nodes state n = (node : Place) × (slice_get nodes n ≡ Some node) × (node.state ≡ state)

-- link l leads down from this node
abbrev pub LeadsDownFrom : List Edge → ℕ → ℕ → Type 0
LeadsDownFrom links upper l = (link : Edge) × (slice_get links l ≡ Some link) × (link.upper ≡ upper)

-- link l leads down to this node
abbrev pub LeadsDownTo : List Edge → ℕ → ℕ → Type 0
LeadsDownTo links lower l = (link : Edge) × (slice_get links l ≡ Some link) × (link.lower ≡ lower)

-- link l, not before this one, leads down to the node by the symbol
abbrev pub LeadsToBy : List Edge → ℕ → SymbolId → ℕ → ℕ → Type 0
LeadsToBy links lower symbol from l = (from ≤ l) × (link : Edge) × (slice_get links l ≡ Some link) × (link.lower ≡ lower) × (link.symbol ≡ symbol)

-- link l is behind this one and leads down from the same node
abbrev pub LeadsFromSame : List Edge → ℕ → ℕ → Type 0
LeadsFromSame links before l = (before < l) × (link : Edge) × (slice_get links before ≡ Some link) × LeadsDownFrom links link.upper l

-- no two nodes have the same state and position
abbrev pub AreNodesDistinct : List Place → Type 0
AreNodesDistinct nodes = (n m : ℕ) (node : Place) → slice_get nodes n ≡ Some node → slice_get nodes m ≡ Some node → n ≡ m

-- each end of a link is a node
abbrev pub AreEndsNodes : PlaceGraph → Type 0
AreEndsNodes graph = (l : ℕ) (link : Edge) → slice_get graph.links l ≡ Some link → (link.upper < length graph.nodes) × (link.lower < length graph.nodes)
