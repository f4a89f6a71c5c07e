-- Stacks by kernels as they lie in a graph by numbers.
use Rattle.std.specs.Prelude.{◌≡◌, ℕ, ◌<◌, ◌≤◌, ◌⊎◌, List, [], ◌∷◌, ◌++◌, length, map, slice_get, slice_index_or, Option, None, Some, Contains}
use Rattle.forest.specs.declared.symbols.TheConstants.{START}
use Rattle.item_sets.specs.declared.item.Item.{Item}
use Rattle.gss.specs.declared.stack_graph.Place.{Place}
use Rattle.gss.specs.declared.stack_graph.Edge.{Edge}
use Rattle.gss.specs.declared.paths.Path.{Path}
use Rattle.gss.specs.declared.stacks.NodeId.{NodeId}
use Rattle.gss.specs.declared.stacks.LinkId.{LinkId}
use Rattle.gss.specs.declared.trails.Walk.{Walk}
use Rattle.gss.specs.PlaceGraphs.{edge_of}
use Rattle.gss.specs.Chains.{none}
use Rattle.gss.specs.KernelGraphs.{KernelPlace, Link, kernel_at, link_of}
use Rattle.gss.specs.Paths.{node_id}

-- a node, whose state is the number of its kernel
abbrev pub kernel_place : List (List Item) → Place → KernelPlace
kernel_place kernels node = kernel_at (slice_index_or kernels node.state []) node.at

abbrev pub nodes_in : List (List Item) → List Place → List KernelPlace
nodes_in kernels nodes = map (kernel_place kernels) nodes

abbrev pub link_in : Edge → Link
link_in edge = link_of edge.upper edge.symbol edge.lower

abbrev pub links_in : List Edge → List Link
links_in edges = map link_in edges

abbrev pub AreKernelsDistinct : List (List Item) → Type 0
AreKernelsDistinct kernels = (n m : ℕ) (kernel : List Item) → slice_get kernels n ≡ Some kernel → slice_get kernels m ≡ Some kernel → n ≡ m

-- kernels have one number each, and states are such numbers
pub record AreNumbered (kernels : List (List Item)) (nodes : List Place) : Type 0 where
  pub distinct : AreKernelsDistinct kernels
  pub within : (n : ℕ) (node : Place) → slice_get nodes n ≡ Some node → node.state < length kernels

-- link l is the one with these ends and this symbol
abbrev pub IsEdge : List Edge → Link → ℕ → Type 0
IsEdge edges link l = slice_get (links_in edges) l ≡ Some link

-- a walk over links has not come to link k yet, as it stands before the next one, or has ended
abbrev pub IsToCome : Option ℕ → ℕ → Type 0
IsToCome None k = ⊥
IsToCome (Some next) k = next ≤ k

-- x was added unless it was there
abbrev pub AddsNew : {X : Type 0} → List X → List X → X → Type 0
AddsNew old new x = (Contains old x × (new ≡ old)) ⊎ ((Contains old x → ⊥) × (new ≡ old ++ x ∷ []))

-- the number of the link, if one is named
abbrev pub named : Option LinkId → Option ℕ
named None = None
named (Some link) = Some link.0

-- the walk for paths of so many links down from the node
abbrev pub walk_of : NodeId → ℕ → Option LinkId → Walk
walk_of node count through = record { top = node.0; length = count; last = none; through = named through; floor = 0 }

-- the node below the link
abbrev pub lower_of : List Edge → ℕ → NodeId
lower_of links link = node_id (slice_index_or links link (edge_of 0 START 0 0)).lower

-- the nodes that the trail leads over
abbrev pub path_along : List Edge → NodeId → List ℕ → Path
path_along links node trail = record { nodes = node ∷ map (lower_of links) trail }
