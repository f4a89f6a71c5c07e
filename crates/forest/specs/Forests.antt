-- The forest that rules and tokens define.
use Rattle.std.specs.Prelude.{◌≡◌, ℕ, List, ◌∷◌, length, Contains}
use Rattle.std.specs.List.Sorted.{IsStrictlySortedBy}
use Rattle.forest.specs.declared.symbols.SymbolId.{SymbolId}
use Rattle.forest.specs.declared.symbols.TheConstants.{START}
use Rattle.forest.specs.declared.rules.Rule.{Rule}
use Rattle.forest.specs.declared.nodes.Split.{Split}
use Rattle.forest.specs.declared.nodes.Node.{Node}
use Rattle.forest.specs.declared.forest.Forest.{Forest}
use Rattle.forest.specs.Derivation.{DerivesAlong, IsSentence, IsNonterminal}
use Rattle.forest.specs.Orders.{split_cmp, node_cmp}
use Rattle.forest.specs.Nodes.{IsAt}

-- a split of the span of x from i to j: a rule of x with cuts from i to j, all parts derived
pub record IsSplit (rules : List Rule) (tokens : List SymbolId) (x : SymbolId) (i j : ℕ) (split : Split) : Type 0 where
  pub rule : Rule
  pub live : Contains rules rule
  pub number : rule.number ≡ split.rule
  pub left : rule.left ≡ x
  pub ends : List ℕ
  pub cuts : split.cuts ≡ i ∷ ends
  pub along : DerivesAlong rules tokens rule.right i ends j

-- one of the symbols, which stand along the cuts from i on, is y, and stands from a to b
pub data IsPart : List SymbolId → ℕ → List ℕ → SymbolId → ℕ → ℕ → Type 0 where
  here : {x : SymbolId} {xs : List SymbolId} {i k : ℕ} {cuts : List ℕ} → IsPart (x ∷ xs) i (k ∷ cuts) x i k
  later : {x y : SymbolId} {xs : List SymbolId} {i k a b : ℕ} {cuts : List ℕ} → IsPart xs k cuts y a b → IsPart (x ∷ xs) i (k ∷ cuts) y a b

-- the least set of spans that has START over the whole text, and each nonterminal part of each split of a span in it
pub data InForest (rules : List Rule) (tokens : List SymbolId) : SymbolId → ℕ → ℕ → Type 0 where
  root : InForest rules tokens START 0 (length tokens)
  part_of : {r : Rule} {i j : ℕ} {cuts : List ℕ} {y : SymbolId} {a b : ℕ} → InForest rules tokens r.left i j → Contains rules r
      → DerivesAlong rules tokens r.right i cuts j → IsPart r.right i cuts y a b → IsNonterminal rules y → InForest rules tokens y a b

-- the node has all splits of its span, each once, in order
pub record IsNodeOf (rules : List Rule) (tokens : List SymbolId) (node : Node) : Type 0 where
  pub within : InForest rules tokens node.symbol node.from node.to
  pub order : IsStrictlySortedBy split_cmp node.splits
  pub splits : (split : Split) → Contains node.splits split → IsSplit rules tokens node.symbol node.from node.to split
  pub all : (split : Split) → IsSplit rules tokens node.symbol node.from node.to split → Contains node.splits split

-- the forest of a text that START derives: a node for each span of the set, each once, in order
pub record IsForestOf (rules : List Rule) (tokens : List SymbolId) (forest : Forest) : Type 0 where
  pub derived : IsSentence rules tokens
  pub order : IsStrictlySortedBy node_cmp forest.nodes
  pub each : (node : Node) → Contains forest.nodes node → IsNodeOf rules tokens node
  pub all : (x : SymbolId) (i j : ℕ) → InForest rules tokens x i j → (node : Node) × Contains forest.nodes node × IsAt node x i j
