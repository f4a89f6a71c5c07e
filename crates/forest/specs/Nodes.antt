-- Where nodes stand.
use Rattle.std.specs.Prelude.{◌≡◌, ℕ, ◌<◌, List, length}
use Rattle.std.specs.List.{HoldsAt}
use Rattle.forest.specs.declared.symbols.SymbolId.{SymbolId}
use Rattle.forest.specs.declared.nodes.Node.{Node}

-- the node is that of the symbol from i to j
abbrev pub IsAt : Node → SymbolId → ℕ → ℕ → Type 0
IsAt node x i j = (node.symbol ≡ x) × (node.from ≡ i) × (node.to ≡ j)

-- the node of the symbol from i to j stands at this place of the list
pub record IsPosition (nodes : List Node) (x : SymbolId) (i j at : ℕ) : Type 0 where
  pub within : at < length nodes
  pub here : HoldsAt (λ node. IsAt node x i j) nodes at
