-- Nodes of the spans that are marked.
use Rattle.std.specs.Prelude.{◌≡◌, ℕ, ◌<◌, ◌≤◌, Bool, List, length, Contains, slice_get, Some}
use Rattle.std.specs.List.{IsDistinct}
use Rattle.std.specs.Ordering.{eq_by_cmp}
use Rattle.forest.specs.declared.nodes.Node.{Node}
use Rattle.forest.specs.Orders.{node_cmp}
use Rattle.packed_spans.specs.declared.headers.Header.{Header}
use Rattle.packed_spans.specs.declared.table.SpanRow.{SpanRow}
use Rattle.packed_spans.specs.declared.table.SplitRow.{SplitRow}
use Rattle.packed_spans.specs.Told.{AreSplitsOf}
use Rattle.packed_spans.specs.Marks.{IsMarked}

-- the node is that of the span, with what its rows tell
pub record IsNodeFor (spans : List SpanRow) (splits : List SplitRow) (parts : List ℕ) (n : ℕ) (node : Node) : Type 0 where
  pub row : SpanRow
  pub at : slice_get spans n ≡ Some row
  pub symbol : node.symbol ≡ row.span.symbol
  pub from : node.from ≡ row.span.from
  pub to : node.to ≡ row.span.to
  pub exact : AreSplitsOf spans splits parts n row.span.from node.splits

-- the nodes of the first headers, each at its header's place
pub record AreNodesFor (spans : List SpanRow) (splits : List SplitRow) (parts : List ℕ) (headers : List Header) (count : ℕ) (nodes : List Node) : Type 0 where
  pub size : length nodes ≡ count
  pub each : (k : ℕ) (header : Header) → k < count → slice_get headers k ≡ Some header
      → (node : Node) × (slice_get nodes k ≡ Some node) × IsNodeFor spans splits parts header.number node

-- a node for each marked span from the limit on
pub record AreNodesOf (spans : List SpanRow) (splits : List SplitRow) (parts : List ℕ) (marked : List Bool) (limit : ℕ) (nodes : List Node) : Type 0 where
  pub sound : (node : Node) → Contains nodes node → (n : ℕ) × (limit ≤ n) × IsMarked marked n × IsNodeFor spans splits parts n node
  pub whole : (n : ℕ) → limit ≤ n → IsMarked marked n → (node : Node) × Contains nodes node × IsNodeFor spans splits parts n node
  pub apart : IsDistinct (eq_by_cmp node_cmp) nodes
