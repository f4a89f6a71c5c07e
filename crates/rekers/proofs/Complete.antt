-- At the end the spans that were found make the whole forest, or no link tells that START derives the text.
use Rattle.std.proofs.Common.{◌≡◌, ℕ, suc, inl, inr, List, [], ◌∷◌, ◌++◌, length, refl, sym, ◌∙◌, ap, subst, arith, slice_get, Some}
use Rattle.std.proofs.lemmas.Bool.{cases_lt}
use Rattle.forest.specs.declared.symbols.SymbolId.{SymbolId}
use Rattle.forest.specs.declared.symbols.TheConstants.{START}
use Rattle.forest.specs.declared.rules.Rule.{Rule}
use Rattle.forest.specs.Derivation.{Derives, token, IsNonterminal, IsSentence}
use Rattle.gss.specs.declared.stack_graph.Place.{Place}
use Rattle.gss.specs.declared.stack_graph.Edge.{Edge}
use Rattle.gss.specs.PlaceGraphs.{place_with, edge_of, LeadsToBy}
use Rattle.gss.specs.Numbers.{HasNone}
use Rattle.packed_spans.specs.declared.span.Span.{Span}
use Rattle.packed_spans.specs.Packed.{PackedSplit, Packed}
use Rattle.packed_spans.specs.Complete.{IsPartAt, of_token, of_span, StandsAlong, no_parts, next_part, TellsSplit, IsComplete}
use Rattle.rekers.specs.States.{IsLastViable}
use Rattle.forest.specs.Numbers.{KeepsNumbers}
use Rattle.rekers.specs.Found.{Findings}
use Rattle.rekers.specs.Sound.{IsLevel}
use Rattle.rekers.proofs.Growth.{keeps_append, node_below}
use Rattle.rekers.proofs.NewNodes.{at_end, old_or_last}
use Rattle.rekers.proofs.Trails.{between_from}
use Rattle.rekers.proofs.Whole.{IsDone, same_node, all_placed, links_over, start_moves}
use Rattle.rekers.proofs.FoundSpans.{span_of, made, different, known, packed}

abbrev pub packed_of : Findings → Packed
packed_of f = record { spans = f.spans; splits = f.splits }

-- the spans with one more
abbrev pub with_span : Findings → Span → Packed
with_span f span = record { spans = f.spans ++ span ∷ []; splits = f.splits }

part_grows : {rules : List Rule} {tokens : List SymbolId} {spans more : List Span} {x : SymbolId} {i label j : ℕ} → KeepsNumbers spans more
    → IsPartAt rules tokens spans x i label j → IsPartAt rules tokens more x i label j
part_grows k (of_token e n) = of_token e n
part_grows k (of_span y e) = of_span y (k _ _ e)

stands_grow : {rules : List Rule} {tokens : List SymbolId} {spans more : List Span} {xs : List SymbolId} {i j : ℕ} {parts cuts : List ℕ}
    → KeepsNumbers spans more
    → StandsAlong rules tokens spans xs i parts cuts j → StandsAlong rules tokens more xs i parts cuts j
stands_grow k no_parts = no_parts
stands_grow k (next_part p s) = next_part (part_grows k p) (stands_grow k s)

tells_grow : {rules : List Rule} {tokens : List SymbolId} {spans more : List Span} {rule : Rule} {cuts : List ℕ} {split : PackedSplit} → KeepsNumbers spans more
    → TellsSplit rules tokens spans rule cuts split → TellsSplit rules tokens more rule cuts split
tells_grow k t = record { span = t.span; at = k _ _ t.at; number = t.number; left = t.left; along = stands_grow k t.along }

module _ (rules : List Rule) (tokens : List SymbolId) (f : Findings) (end : IsDone rules tokens f) where
  -- the root is among the spans
  pub complete : (root : ℕ) → slice_get f.spans root ≡ Some (span_of START 0 (length tokens)) → IsComplete rules tokens (packed_of f) root
  complete root e = record {
    text = e;
    derived = λ n span at. (made rules tokens f end.graph n span at).link.derives;
    different = different rules tokens f end.graph;
    sound = λ split c. let k = known rules tokens f end.graph split c in (k.rule, k.live, (k.cuts, k.tells));
    whole = λ n span at rule c left cuts along.
        let p = packed rules tokens f end n span at rule c left cuts along in
        (p.split, p.there, p.of, p.tells);
  }

  -- START is the one token, and becomes the root
  module _ (no_rule : IsNonterminal rules START → ⊥) (first : slice_get tokens 0 ≡ Some START) (one : length tokens ≡ 1) where
    root : Span
    root = span_of START 0 (length tokens)

    root_is_new : (n : ℕ) (span : Span) → slice_get f.spans n ≡ Some span → span ≡ root → ⊥
    unfolding root
    root_is_new n span e same = no_rule
        (subst (λ x. IsNonterminal rules x) (ap (λ (s : Span). s.symbol) same) (made rules tokens f end.graph n span e).nonterminal)

    root_derived : Derives rules tokens START 0 (length tokens)
    root_derived = subst (λ j. Derives rules tokens START 0 j) (sym one) (token first)

    pub complete_token : IsComplete rules tokens (with_span f (span_of START 0 (length tokens))) (length f.spans)
    unfolding root
    complete_token = record {
      text = at_end f.spans root;
      derived = λ n span e. elim (old_or_last f.spans root n span e) [
        | inl old ↦ (made rules tokens f end.graph n span old).link.derives
        | inr last ↦ subst (λ (s : Span). Derives rules tokens s.symbol s.from s.to) (sym last.1) root_derived
      ];
      different = λ m n span e g. elim (old_or_last f.spans root m span e) [
        | inl old ↦ elim (old_or_last f.spans root n span g) [
          | inl other ↦ different rules tokens f end.graph m n span old other
          | inr last ↦ absurd (root_is_new m span old last.1)
        ]
        | inr here ↦ elim (old_or_last f.spans root n span g) [
          | inl other ↦ absurd (root_is_new n span other here.1)
          | inr last ↦ here.0 ∙ sym last.0
        ]
      ];
      sound = λ split c. let k = known rules tokens f end.graph split c in
          (k.rule, k.live, (k.cuts, tells_grow (keeps_append f.spans (root ∷ [])) k.tells));
      whole = λ n span e rule c left cuts along. elim (old_or_last f.spans root n span e) [
        | inl old ↦
            let p = packed rules tokens f end n span old rule c left cuts along in
            (p.split, p.there, p.of, tells_grow (keeps_append f.spans (root ∷ [])) p.tells)
        | inr last ↦ absurd (no_rule (rule, c, left ∙ ap (λ (s : Span). s.symbol) last.1))
      ];
    }

  -- where each later node is, no state is reached
  pub last_viable : (last : ℕ) (place : Place) → slice_get f.nodes last ≡ Some place → length f.nodes ≡ suc last → IsLastViable rules tokens place.at
  last_viable last place e count =
      let (kernel, is, reached) = end.graph.nodes last place e in
      record {
        kernel = kernel;
        reached = reached;
        none_behind = λ other i state.
            let (node, n) = all_placed rules tokens f end state in
            end.graph.rising node last (place_with n.state i) place n.there e (omega (arith, node_below n, count));
      }

  module _ (first_node first_link : ℕ) (level : IsLevel f (length tokens) first_node first_link) where
    -- where no link of the last level leads by START down to the start, START does not derive the text
    pub no_sentence : HasNone (LeadsToBy f.links 0 START first_link) → IsSentence rules tokens → ⊥
    no_sentence none d =
        let (v, l) = links_over rules tokens f end d (0, end.graph.begun) (omega arith) (start_moves rules) in
        let lower : l.lower ≡ 0 = same_node rules tokens f end.graph l.lower_is end.graph.begun in
        elim (cases_lt l.link first_link) [
          | inl before ↦
              let low = level.links_before l.link _ l.there before in
              absurd (omega (arith, level.nodes_before l.upper _ l.upper_is.there low))
          | inr here ↦ none l.link (omega (arith, here), edge_of l.upper START l.lower l.label, l.there, lower, refl)
        ]

    -- the label of such a link tells what START is
    pub root_part : (link : ℕ) → LeadsToBy f.links 0 START first_link link → (edge : Edge) → slice_get f.links link ≡ Some edge
        → IsPartAt rules tokens f.spans START 0 edge.label (length tokens)
    root_part link leads edge e =
        let (here, found, there, lower, symbol) = leads in
        let same : found ≡ edge = cc in
        let below : edge.lower ≡ 0 = ap (λ (l : Edge). l.lower) (sym same) ∙ lower in
        let by : edge.symbol ≡ START = ap (λ (l : Edge). l.symbol) (sym same) ∙ symbol in
        let at : slice_get f.links link ≡ Some (edge_of edge.upper START 0 edge.label) =
        subst (λ n. slice_get f.links link ≡ Some (edge_of edge.upper START n edge.label)) below
        (subst (λ x. slice_get f.links link ≡ Some (edge_of edge.upper x edge.lower edge.label)) by e) in
        let b = between_from rules tokens f end.graph link at end.graph.begun in
        let to : b.to ≡ length tokens = level.nodes_here edge.upper _ b.upper_is.there (level.links_here link edge e here) in
        subst (λ j. IsPartAt rules tokens f.spans START 0 edge.label j) to b.part
