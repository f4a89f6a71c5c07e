-- A text has one forest at most.
use Rattle.std.proofs.Common.{◌≡◌, ℕ, List, sym, ◌∙◌, ap, subst, Contains}
use Rattle.forest.specs.declared.symbols.SymbolId.{SymbolId}
use Rattle.forest.specs.declared.rules.Rule.{Rule}
use Rattle.forest.specs.declared.nodes.Split.{Split}
use Rattle.forest.specs.declared.nodes.Node.{Node}
use Rattle.forest.specs.declared.forest.Forest.{Forest}
use Rattle.forest.specs.Forests.{IsSplit, IsNodeOf, IsForestOf}
use Rattle.forest.specs.Nodes.{IsAt}
use Rattle.forest.specs.Orders.{split_cmp, node_cmp}
use Rattle.forest.proofs.Ascending.{same_list}
use Rattle.forest.proofs.Orderings.{split_cmp_total, node_cmp_total}

abbrev node_at : SymbolId → ℕ → ℕ → List Split → Node
node_at x i j splits = record { symbol = x; from = i; to = j; splits = splits }

module _ (rules : List Rule) (tokens : List SymbolId) where
  -- a split of one node is a split of another at its span
  moved : (n m : Node) → IsNodeOf rules tokens n → IsNodeOf rules tokens m → IsAt m n.symbol n.from n.to → (s : Split) → Contains n.splits s
      → Contains m.splits s
  moved n m a b at s c =
      let here : IsSplit rules tokens n.symbol n.from n.to s = a.splits s c in
      let by_symbol : IsSplit rules tokens m.symbol n.from n.to s = subst (λ x. IsSplit rules tokens x n.from n.to s) (sym at.0) here in
      let by_from : IsSplit rules tokens m.symbol m.from n.to s = subst (λ i. IsSplit rules tokens m.symbol i n.to s) (sym at.1) by_symbol in
      b.all s (subst (λ j. IsSplit rules tokens m.symbol m.from j s) (sym at.2) by_from)

  one_node : (n m : Node) → IsNodeOf rules tokens n → IsNodeOf rules tokens m → IsAt m n.symbol n.from n.to → m ≡ n
  one_node n m a b at =
      let splits : m.splits ≡ n.splits = same_list split_cmp split_cmp_total m.splits n.splits b.order a.order (moved m n b a (sym at.0, sym at.1, sym at.2))
      (moved n m a b at) in
      ap (λ x. node_at x m.from m.to m.splits) at.0 ∙ ap (λ i. node_at n.symbol i m.to m.splits) at.1 ∙ ap (λ j. node_at n.symbol n.from j m.splits) at.2 ∙ ap
      (λ s. node_at n.symbol n.from n.to s) splits

  -- each node of a forest of the text is in any other
  in_other : (f g : Forest) → IsForestOf rules tokens f → IsForestOf rules tokens g → (n : Node) → Contains f.nodes n → Contains g.nodes n
  in_other f g a b n c =
      let node = a.each n c in
      let (m, d, at) = b.all n.symbol n.from n.to node.within in
      subst (λ q. Contains g.nodes q) (one_node n m node (b.each m d) at) d

  pub one_forest : (f g : Forest) → IsForestOf rules tokens f → IsForestOf rules tokens g → f.nodes ≡ g.nodes
  one_forest f g a b = same_list node_cmp node_cmp_total f.nodes g.nodes a.order b.order (in_other f g a b) (in_other g f b a)
