-- What a binary search finds among nodes that ascend.
use Rattle.std.proofs.Common.{◌≡◌, ℕ, ◌≤◌, inl, inr, List, [], length, get_or, refl, sym, ◌∙◌, ap, arith, Contains, Result, Ok, Err, IfSome, IfNone}
use Rattle.std.proofs.lemmas.Bool.{cases_lt}
use Rattle.std.proofs.lemmas.List.Sorted.{IsNonDecreasingBy-from_default}
use Rattle.std.proofs.lemmas.Map.Keys.{Less-from_sorted}
use Rattle.std.proofs.lemmas.Map.Lookups.{exact_unsigned}
use Rattle.std.specs.Ordering.{nat_cmp, ordering_then, ordering_reverse, ordering_index}
use Rattle.std.specs.Cmp.{nat_cmp_is}
use Rattle.std.specs.declared.cmp.Ordering.{Ordering}
use Rattle.std.specs.declared.cmp.Ordering.TheVariants.{Less, Equal, Greater}
use Rattle.std.specs.List.Sorted.{IsStrictlySortedBy, IsSearchInRange, IsBinarySearchResult, IsNonDecreasingBy}
use Rattle.std.specs.Result.{result_ok}
use Rattle.forest.specs.declared.symbols.SymbolId.{SymbolId}
use Rattle.forest.specs.declared.nodes.Node.{Node}
use Rattle.forest.specs.Orders.{span_cmp, node_cmp}
use Rattle.forest.specs.Nodes.{IsAt, IsPosition}
use Rattle.forest.proofs.Orderings.{node_cmp_total, then_equal}

equal : (n : ℕ) → nat_cmp n n ≡ Equal
equal n = sym (nat_cmp_is n n Equal refl)

module _ (nodes : List Node) (sorted : IsStrictlySortedBy node_cmp nodes) (x : SymbolId) (i j : ℕ) where
  -- a node of the span itself
  probe : Node
  probe = record { symbol = x; from = i; to = j; splits = [] }

  -- comparisons with a span rise along the order
  rises : (a b : Node) → node_cmp a b ≡ Less → ordering_index (span_cmp a x i j) ≤ ordering_index (span_cmp b x i j)
  unfolding probe
  rises a b less = by (span_cmp b x i j) refl
    where
      by : (o : Ordering) → span_cmp b x i j ≡ o → ordering_index (span_cmp a x i j) ≤ ordering_index (span_cmp b x i j)
      by Less e = let same : span_cmp a x i j ≡ Less = node_cmp_total.trans a b probe less e in rw (same, e) (omega arith)
      by Equal e =
          let behind : node_cmp probe a ≡ node_cmp b a = sym (node_cmp_total.congr b probe a e) in
          let same : span_cmp a x i j ≡ Less = node_cmp_total.antisymm a probe ∙ ap ordering_reverse behind ∙ sym (node_cmp_total.antisymm a b) ∙ less in
          rw (same, e) (omega arith)
      by Greater e = rw e (most (span_cmp a x i j))
        where
          most : (o : Ordering) → ordering_index o ≤ ordering_index Greater
          most Less = omega arith
          most Equal = omega arith
          most Greater = omega arith

  along : IsNonDecreasingBy (λ node. ordering_index (span_cmp node x i j)) nodes
  unfolding probe
  along = IsNonDecreasingBy-from_default (λ node. ordering_index (span_cmp node x i j)) nodes probe (λ a b l within. elim (cases_lt a b) [
    | inl below ↦ rises (get_or nodes a probe) (get_or nodes b probe) (Less-from_sorted node_cmp nodes a b probe sorted below within)
    | inr above ↦ let same : a ≡ b = omega arith in rw same (omega arith)
  ])

  equal_is_at : (node : Node) → span_cmp node x i j ≡ Equal → IsAt node x i j
  equal_is_at node e =
      let first : (nat_cmp node.from i ≡ Equal) × _ = then_equal _ _ e in
      let rest = then_equal _ _ first.1 in
      (ap (λ n. let s : SymbolId = record { 0 = n } in s) (exact_unsigned _ _ rest.1), exact_unsigned _ _ first.0, exact_unsigned _ _ rest.0)

  at_is_equal : (node : Node) → IsAt node x i j → span_cmp node x i j ≡ Equal
  at_is_equal node (e, f, g) = rw (ap (λ (s : SymbolId). s.0) e, f, g) (same i j x.0)
    where
      same : (a b c : ℕ) → ordering_then (nat_cmp a a) (ordering_then (nat_cmp b b) (nat_cmp c c)) ≡ Equal
      same a b c = rw (equal a, equal b, equal c) refl

  pub found : (r : Result ℕ ℕ) → IsSearchInRange r (length nodes) → IsBinarySearchResult (λ node. span_cmp node x i j) nodes r
      → IfSome (result_ok r) (λ at. IsPosition nodes x i j at)
  found (Ok at) range h = record { within = range; here = λ d. equal_is_at (get_or nodes at d) (h d) }
  found (Err at) range h = tt

  pub absent : (r : Result ℕ ℕ) → IsBinarySearchResult (λ node. span_cmp node x i j) nodes r
      → IfNone (result_ok r) ((node : Node) → Contains nodes node → IsAt node x i j → ⊥)
  absent (Ok at) h = tt
  absent (Err at) h = λ node (k, within, is) here.
      let equal : span_cmp (get_or nodes k node) x i j ≡ Equal = rw is (at_is_equal node here) in
      elim (cases_lt k at) [
        | inl below ↦ let less : span_cmp (get_or nodes k node) x i j ≡ Less = (h along).0 k node (omega arith) below in absurd cc
        | inr above ↦ let more : span_cmp (get_or nodes k node) x i j ≡ Greater = (h along).1 k node above within in absurd cc
      ]
