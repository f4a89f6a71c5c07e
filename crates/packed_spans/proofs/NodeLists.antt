-- The nodes of the marked spans, each at its header's place.
use Rattle.std.proofs.Common.{◌≡◌, ℕ, ◌+◌, ◌<◌, inl, inr, Bool, List, []}
use Rattle.std.proofs.Common.{◌∷◌, ◌++◌, length, length-append, get_or, refl, sym, ◌∙◌, ap, subst, arith, Contains, slice_get, Some}
use Rattle.std.proofs.lemmas.Bool.{cases_eq}
use Rattle.std.proofs.lemmas.Map.Keys.{IsDistinct-from_sorted, Less-from_sorted}
use Rattle.std.proofs.lemmas.Option.{slice_get_within, slice_get-get_or, get_or_from_slice_get}
use Rattle.std.specs.List.Sorted.{IsStrictlySortedBy}
use Rattle.forest.specs.declared.symbols.SymbolId.{SymbolId}
use Rattle.forest.specs.declared.nodes.Node.{Node}
use Rattle.forest.specs.Orders.{node_cmp}
use Rattle.packed_spans.specs.declared.span.Span.{Span}
use Rattle.packed_spans.specs.declared.headers.Header.{Header}
use Rattle.packed_spans.specs.declared.table.SpanRow.{SpanRow}
use Rattle.packed_spans.specs.declared.table.SplitRow.{SplitRow}
use Rattle.packed_spans.specs.Marks.{IsMarked}
use Rattle.packed_spans.specs.Headers.{header_cmp, IsHeaderFor, AreHeadersOf}
use Rattle.packed_spans.specs.Nodes.{IsNodeFor, AreNodesFor, AreNodesOf}
use Rattle.packed_spans.proofs.Lists.{one_at, contains_at, at_contained, at_left, at_end}
use Rattle.packed_spans.proofs.Orders.{no_header, nodes_ascend}

-- the header of a marked span has its number
pub header_known : (spans : List SpanRow) (marked : List Bool) (headers : List Header) → AreHeadersOf spans marked 0 headers → (header : Header)
    → Contains headers header → header.number < length spans
header_known spans marked headers a header c =
    let (n, low, there, is) = a.sound header c in
    let within : n < length spans = slice_get_within spans n is.row is.at in
    omega (arith, is.number)

module _ (spans : List SpanRow) (splits : List SplitRow) (parts : List ℕ) (headers : List Header) where
  pub no_nodes : AreNodesFor spans splits parts headers 0 []
  no_nodes = record { size = refl; each = λ k header low at. absurd (omega arith) }

  -- one more node
  pub nodes_more : (count : ℕ) (nodes : List Node) (header : Header) (node : Node) → slice_get headers count ≡ Some header
      → IsNodeFor spans splits parts header.number node → AreNodesFor spans splits parts headers count nodes
      → AreNodesFor spans splits parts headers (count + 1) (nodes ++ node ∷ [])
  nodes_more count nodes header node here is a = record {
    size = omega (arith, a.size, length-append nodes (node ∷ []));
    each = λ k h low at. elim (cases_eq k count) [
      | inl e ↦
          let same : h ≡ header = one_at headers k h header at (subst (λ n. slice_get headers n ≡ Some header) (sym e) here) in
          let place : slice_get (nodes ++ node ∷ []) k ≡ Some node =
          subst (λ n. slice_get (nodes ++ node ∷ []) n ≡ Some node) (a.size ∙ sym e) (at_end nodes node) in
          (node, place, subst (λ (q : Header). IsNodeFor spans splits parts q.number node) (sym same) is)
      | inr ne ↦
          let (other, place, for) = a.each k h (omega arith) at in
          (other, at_left nodes (node ∷ []) k other place, for)
    ];
  }

  module _ (marked : List Bool) (nodes : List Node) (h : AreHeadersOf spans marked 0 headers) (order : IsStrictlySortedBy header_cmp headers)
      (a : AreNodesFor spans splits parts headers (length headers) nodes) where
    -- a node with its header, which is that of a marked span
    record IsPair (header : Header) (node : Node) : Type 0 where
      pub number : ℕ
      pub marks : IsMarked marked number
      pub of : IsHeaderFor spans number header
      pub is : IsNodeFor spans splits parts number node

    pair_at : (k : ℕ) (header : Header) (node : Node) → slice_get headers k ≡ Some header → slice_get nodes k ≡ Some node → IsPair header node
    pair_at k header node header_at node_at =
        let (n, low, there, of) = h.sound header (contains_at headers k header header_at) in
        let (other, place, for) = a.each k header (slice_get_within headers k header header_at) header_at in
        let same : other ≡ node = one_at nodes k other node place node_at in
        record {
          number = n;
          marks = there;
          of = of;
          is = subst (λ q. IsNodeFor spans splits parts n q) same (subst (λ q. IsNodeFor spans splits parts q other) of.number for);
        }

    pair_of : (k : ℕ) (node : Node) → slice_get nodes k ≡ Some node → (header : Header) × (slice_get headers k ≡ Some header) × IsPair header node
    pair_of k node node_at =
        let within : k < length headers = let low = slice_get_within nodes k node node_at in omega (arith, a.size) in
        let header_at : slice_get headers k ≡ Some (get_or headers k no_header) = slice_get-get_or headers k no_header within in
        (get_or headers k no_header, header_at, pair_at k (get_or headers k no_header) node header_at node_at)

    same_span : (header : Header) (node : Node) → IsPair header node → (node.from ≡ header.span.from) × (node.to ≡ header.span.to)
        × (node.symbol.0 ≡ header.span.symbol.0)
    same_span header node p =
        let row : p.is.row ≡ p.of.row = one_at spans p.number p.is.row p.of.row p.is.at p.of.at in
        let span : p.is.row.span ≡ header.span = ap (λ (r : SpanRow). r.span) row ∙ sym p.of.span in (
          p.is.from ∙ ap (λ (s : Span). s.from) span,
          p.is.to ∙ ap (λ (s : Span). s.to) span,
          ap (λ (x : SymbolId). x.0) p.is.symbol ∙ ap (λ (s : Span). s.symbol.0) span,
        )

    same_order : (g h : Header) (a b : Node) → IsPair g a → IsPair h b → node_cmp a b ≡ header_cmp g h
    same_order g h a b p q =
        let (from, to, symbol) = same_span g a p in
        let (from_b, to_b, symbol_b) = same_span h b q in
        rw (from, to, symbol, from_b, to_b, symbol_b) refl

    pub nodes_sorted : IsStrictlySortedBy node_cmp nodes
    nodes_sorted = nodes_ascend nodes (length nodes) (omega arith) (λ k d l.
        let node_at : slice_get nodes k ≡ Some (get_or nodes k d) = slice_get-get_or nodes k d (omega arith) in
        let next_at : slice_get nodes (k + 1) ≡ Some (get_or nodes (k + 1) d) = slice_get-get_or nodes (k + 1) d l in
        let (g, g_at, p) = pair_of k (get_or nodes k d) node_at in
        let (h, h_at, q) = pair_of (k + 1) (get_or nodes (k + 1) d) next_at in
        let within : k + 1 < length headers = omega (arith, a.size) in
        let less = Less-from_sorted header_cmp headers k (k + 1) no_header order (omega arith) within in
        let is_g : get_or headers k no_header ≡ g = get_or_from_slice_get headers k g no_header g_at in
        let is_h : get_or headers (k + 1) no_header ≡ h = get_or_from_slice_get headers (k + 1) h no_header h_at in
        same_order g h (get_or nodes k d) (get_or nodes (k + 1) d) p q ∙ (rw (is_g, is_h) at less))

    pub nodes_whole : AreNodesOf spans splits parts marked 0 nodes
    nodes_whole = record {
      sound = λ node c.
          let (header, header_at, p) = pair_of c.0 node (at_contained nodes node c) in
          (p.number, omega arith, p.marks, p.is);
      whole = λ n low m.
          let (header, c, of) = h.whole n low m in
          let (node, node_at, is) = a.each c.0 header c.1 (at_contained headers header c) in
          (node, contains_at nodes c.0 node node_at, subst (λ q. IsNodeFor spans splits parts q node) of.number is);
      apart = IsDistinct-from_sorted node_cmp nodes nodes_sorted;
    }
