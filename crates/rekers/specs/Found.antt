-- What a parse has found, by number: kernels of states, nodes and links, spans and splits.
use Rattle.std.specs.Prelude.{◌≡◌, ℕ, List, [], ◌∷◌, Some, slice_get, Contains}
use Rattle.forest.specs.declared.symbols.SymbolId.{SymbolId}
use Rattle.item_sets.specs.declared.item.Item.{Item}
use Rattle.gss.specs.declared.stack_graph.Place.{Place}
use Rattle.gss.specs.declared.stack_graph.Edge.{Edge}
use Rattle.gss.specs.PlaceGraphs.{place_with, edge_of}
use Rattle.packed_spans.specs.declared.span.Span.{Span}
use Rattle.packed_spans.specs.Packed.{PackedSplit}
use Rattle.rekers.specs.declared.parser.Parser.{Parser}
use Rattle.forest.specs.Numbers.{KeepsNumbers}

-- the kernels of states, the nodes and links between them, the spans with their splits, and of each span the link that made it
pub record Findings : Type 0 where
  pub kernels : List (List Item)
  pub nodes : List Place
  pub links : List Edge
  pub spans : List Span
  pub splits : List PackedSplit
  pub owners : List ℕ

abbrev pub found : Parser → Findings
found parser = record {
  kernels = parser.states.kernels;
  nodes = parser.stacks.nodes;
  links = parser.stacks.links;
  spans = parser.spans.spans;
  splits = parser.spans.splits;
  owners = parser.owners.items;
}

-- the node is the state of this kernel at place i
pub record IsNode (f : Findings) (node : ℕ) (kernel : List Item) (i : ℕ) : Type 0 where
  pub state : ℕ
  pub there : slice_get f.nodes node ≡ Some (place_with state i)
  pub is_kernel : slice_get f.kernels state ≡ Some kernel

-- all that was found stays
pub record Grows (old new : Findings) : Type 0 where
  pub kernels : KeepsNumbers old.kernels new.kernels
  pub nodes : KeepsNumbers old.nodes new.nodes
  pub links : KeepsNumbers old.links new.links
  pub spans : KeepsNumbers old.spans new.spans
  pub splits : (split : PackedSplit) → Contains old.splits split → Contains new.splits split
  pub owners : KeepsNumbers old.owners new.owners

-- The links, by their numbers, lead from the lower node up to the upper one, one after the other. Their symbols and labels stand beside them.
pub data IsTrail (links : List Edge) : ℕ → List ℕ → List SymbolId → List ℕ → ℕ → Type 0 where
  here : {node : ℕ} → IsTrail links node [] [] [] node
  over : {lower middle upper link : ℕ} {x : SymbolId} {label : ℕ} {trail : List ℕ} {xs : List SymbolId} {labels : List ℕ}
      → slice_get links link ≡ Some (edge_of middle x lower label) → IsTrail links middle trail xs labels upper
      → IsTrail links lower (link ∷ trail) (x ∷ xs) (label ∷ labels) upper
