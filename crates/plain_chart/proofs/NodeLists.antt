-- The nodes of spans, and the forest that they make.
use Rattle.std.proofs.Common.{◌≡◌, ℕ, zero, suc, ◌+◌, inl, inr, List, [], ◌∷◌, ◌++◌, map, take, refl, sym, ◌∙◌, ap, subst, arith, Contains, slice_get, Some}
use Rattle.std.specs.declared.cmp.Ordering.TheVariants.{Less}
use Rattle.std.specs.List.{AllByRecursion}
use Rattle.std.specs.List.Sorted.{IsStrictlySortedBy}
use Rattle.forest.specs.declared.symbols.SymbolId.{SymbolId}
use Rattle.forest.specs.declared.rules.Rule.{Rule}
use Rattle.forest.specs.declared.nodes.Node.{Node}
use Rattle.forest.specs.declared.forest.Forest.{Forest}
use Rattle.forest.specs.Derivation.{IsSentence}
use Rattle.forest.specs.Forests.{IsForestOf}
use Rattle.forest.specs.Orders.{node_cmp}
use Rattle.plain_chart.specs.declared.spans.Span.{Span}
use Rattle.plain_chart.specs.Span.{span}
use Rattle.plain_chart.specs.Cuts.{AreSplits}
use Rattle.plain_chart.specs.Nodes.{chart_span_cmp, span_of, IsNodeAt, AreNodes}
use Rattle.plain_chart.specs.Parts.{AreReached}
use Rattle.plain_chart.proofs.Fine.{contains_push}
use Rattle.plain_chart.proofs.SplitLists.{map_cases, map_has}
use Rattle.plain_chart.proofs.TableLemmas.{some_same}

take_push : (spans : List Span) (k : ℕ) (s : Span) → slice_get spans k ≡ Some s → take (k + 1) spans ≡ take k spans ++ s ∷ []
take_push [] k s e = absurd cc
take_push (t ∷ ts) zero s e = ap (λ q. q ∷ []) (some_same t s e)
take_push (t ∷ ts) (suc k) s e = let more : suc k + 1 ≡ suc (k + 1) = omega arith in ap (λ n. take n (t ∷ ts)) more ∙ ap (λ q. t ∷ q) (take_push ts k s e)

map_push : (nodes : List Node) (node : Node) → map span_of (nodes ++ node ∷ []) ≡ map span_of nodes ++ span_of node ∷ []
map_push [] node = refl
map_push (n ∷ ns) node = ap (λ q. span_of n ∷ q) (map_push ns node)

module _ (rules : List Rule) (tokens : List SymbolId) (spans : List Span) where
  pub nodes_none : AreNodes rules tokens (take 0 spans) []
  nodes_none = record { at = refl; each = λ node c. absurd (omega (arith, c.1)) }

  pub nodes_more : (k : ℕ) (s : Span) (nodes : List Node) (node : Node) → slice_get spans k ≡ Some s → AreNodes rules tokens (take k spans) nodes
      → IsNodeAt rules tokens s node → AreNodes rules tokens (take (k + 1) spans) (nodes ++ node ∷ [])
  nodes_more k s nodes node e a n = record {
    at = map_push nodes node ∙ ap (λ q. q ++ span_of node ∷ []) a.at ∙ ap (λ q. take k spans ++ q ∷ []) n.at ∙ sym (take_push spans k s e);
    each = λ m c. elim (contains_push nodes node m c) [
      | inl f ↦ subst (λ (q : Node). AreSplits rules tokens (span_of q) q.splits) f (subst (λ q. AreSplits rules tokens q node.splits) (sym n.at) n.splits)
      | inr d ↦ a.each m d
    ];
  }

each_node : (a : Node) (nodes : List Node) → AllByRecursion (λ s. chart_span_cmp (span_of a) s ≡ Less) (map span_of nodes)
    → AllByRecursion (λ b. node_cmp a b ≡ Less) nodes
each_node a [] e = tt
each_node a (b ∷ nodes) e = (e.0, each_node a nodes e.1)

sorted_nodes : (nodes : List Node) → IsStrictlySortedBy chart_span_cmp (map span_of nodes) → IsStrictlySortedBy node_cmp nodes
unfolding IsStrictlySortedBy
sorted_nodes [] s = tt
sorted_nodes (a ∷ nodes) s = (each_node a nodes s.0, sorted_nodes nodes s.1)

pub nodes_ascend : (rules : List Rule) (tokens : List SymbolId) (spans : List Span) (nodes : List Node) → AreNodes rules tokens spans nodes
    → IsStrictlySortedBy chart_span_cmp spans → IsStrictlySortedBy node_cmp nodes
nodes_ascend rules tokens spans nodes a s = sorted_nodes nodes (subst (λ q. IsStrictlySortedBy chart_span_cmp q) (sym a.at) s)

pub forest_is : (rules : List Rule) (tokens : List SymbolId) (spans : List Span) (forest : Forest) → IsSentence rules tokens
    → AreNodes rules tokens spans forest.nodes → AreReached rules tokens spans → IsForestOf rules tokens forest
forest_is rules tokens spans forest sentence a reached = record {
  derived = sentence;
  order = forest.ascending;
  each = λ node c.
      let splits = a.each node c in
      let there : Contains spans (span_of node) = subst (λ q. Contains q (span_of node)) a.at (map_has span_of forest.nodes node c) in
      record { within = reached.within (span_of node) there; order = splits.order; splits = splits.within; all = splits.all };
  all = λ x i j f.
      let there : Contains (map span_of forest.nodes) (span x i j) = subst (λ q. Contains q (span x i j)) (sym a.at) (reached.all x i j f) in
      let (node, e, c) = map_cases span_of forest.nodes (span x i j) there in
      (node, c, (ap (λ (s : Span). s.symbol) (sym e), ap (λ (s : Span). s.from) (sym e), ap (λ (s : Span). s.to) (sym e)));
}
