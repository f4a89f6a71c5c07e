-- How rules, splits and nodes are ordered.
use Rattle.std.specs.Prelude.{ℕ}
use Rattle.std.specs.Ordering.{nat_cmp, ordering_then}
use Rattle.std.specs.Cmp.Lexicographic.{slice_cmp}
use Rattle.std.specs.declared.cmp.Ordering.{Ordering}
use Rattle.forest.specs.declared.symbols.SymbolId.{SymbolId}
use Rattle.forest.specs.declared.rules.Rule.{Rule}
use Rattle.forest.specs.declared.nodes.Split.{Split}
use Rattle.forest.specs.declared.nodes.Node.{Node}

-- by number
abbrev pub rule_cmp : Rule → Rule → Ordering
rule_cmp a b = nat_cmp a.number.0 b.number.0

-- by rule, then by the list of cuts
abbrev pub split_cmp : Split → Split → Ordering
split_cmp a b = ordering_then (nat_cmp a.rule.0 b.rule.0) (slice_cmp nat_cmp a.cuts b.cuts)

-- how a node stands to the span of x from i to j: by from, then by to, then by symbol
abbrev pub span_cmp : Node → SymbolId → ℕ → ℕ → Ordering
span_cmp node x i j = ordering_then (nat_cmp node.from i) (ordering_then (nat_cmp node.to j) (nat_cmp node.symbol.0 x.0))

-- by their spans
abbrev pub node_cmp : Node → Node → Ordering
node_cmp a b = span_cmp a b.symbol b.from b.to
