-- The nodes of spans.
use Rattle.std.specs.Prelude.{◌≡◌, List, map, Contains}
use Rattle.std.specs.Ordering.{nat_cmp, ordering_then}
use Rattle.std.specs.declared.cmp.Ordering.{Ordering}
use Rattle.forest.specs.declared.symbols.SymbolId.{SymbolId}
use Rattle.forest.specs.declared.rules.Rule.{Rule}
use Rattle.forest.specs.declared.nodes.Node.{Node}
use Rattle.plain_chart.specs.declared.spans.Span.{Span}
use Rattle.plain_chart.specs.Span.{span}
use Rattle.plain_chart.specs.Cuts.{AreSplits}

-- as the nodes of a forest: by from, then by to, then by symbol
abbrev pub chart_span_cmp : Span → Span → Ordering
chart_span_cmp a b = ordering_then (nat_cmp a.from b.from) (ordering_then (nat_cmp a.to b.to) (nat_cmp a.symbol.0 b.symbol.0))

abbrev pub span_of : Node → Span
span_of node = span node.symbol node.from node.to

-- the node is the span's, with all its splits
pub record IsNodeAt (rules : List Rule) (tokens : List SymbolId) (s : Span) (node : Node) : Type 0 where
  pub at : span_of node ≡ s
  pub splits : AreSplits rules tokens s node.splits

-- the nodes are those of the spans, one for each
pub record AreNodes (rules : List Rule) (tokens : List SymbolId) (spans : List Span) (nodes : List Node) : Type 0 where
  pub at : map span_of nodes ≡ spans
  pub each : (node : Node) → Contains nodes node → AreSplits rules tokens (span_of node) node.splits
