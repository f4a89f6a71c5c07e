-- Spans and splits as they were found: each is there by the rules and the text, and, at the end, none is missing.
use Rattle.std.proofs.Common.{◌≡◌, ℕ, ◌≤◌, inl, inr, List, length, refl, sym, ◌∙◌, ap, subst, arith, Contains, slice_get, Some}
use Rattle.std.proofs.lemmas.Bool.{cases_lt}
use Rattle.std.proofs.lemmas.Option.{slice_get_within}
use Rattle.forest.specs.declared.symbols.SymbolId.{SymbolId}
use Rattle.forest.specs.declared.rules.Rule.{Rule}
use Rattle.forest.specs.Derivation.{DerivesAlong, IsNonterminal}
use Rattle.forest.proofs.Derivations.{Derives-within, Along-within}
use Rattle.item_sets.specs.declared.item.Item.{Item}
use Rattle.item_sets.specs.Prefixes.{item_at, live}
use Rattle.item_sets.specs.Expansions.{InClosure, HasMove}
use Rattle.item_sets.proofs.Chains.{at_below}
use Rattle.gss.specs.declared.stack_graph.Place.{Place}
use Rattle.gss.specs.declared.stack_graph.Edge.{Edge}
use Rattle.gss.specs.PlaceGraphs.{edge_of}
use Rattle.packed_spans.specs.declared.span.Span.{Span}
use Rattle.packed_spans.specs.Packed.{PackedSplit}
use Rattle.packed_spans.specs.Complete.{TellsSplit, AreDifferent}
use Rattle.parser_states.specs.declared.reduction.Reduction.{Reduction}
use Rattle.rekers.specs.States.{IsStateAt}
use Rattle.rekers.specs.Size.{IsLink}
use Rattle.rekers.specs.Found.{Findings, IsNode}
use Rattle.rekers.specs.Reductions.{IsFoundAlong}
use Rattle.rekers.specs.Sound.{IsSoundGraph, IsFirstMover, state_link_of}
use Rattle.rekers.proofs.Growth.{one_at}
use Rattle.rekers.proofs.Saturated.{added_by, walk}
use Rattle.rekers.proofs.Trails.{between_from, part_cases, derived, node_state}
use Rattle.rekers.proofs.Whole.{IsPlaced, IsLinked, IsDone, trail_of, reduced, saturated}

abbrev pub span_of : SymbolId → ℕ → ℕ → Span
span_of x i j = record { symbol = x; from = i; to = j }

-- the link that made the span, between its ends
pub record IsMade (rules : List Rule) (tokens : List SymbolId) (f : Findings) (number : ℕ) (span : Span) : Type 0 where
  pub owner : ℕ
  pub owns : slice_get f.owners number ≡ Some owner
  pub lower : ℕ
  pub below : List Item
  pub lower_is : IsNode f lower below span.from
  pub upper : ℕ
  pub above : List Item
  pub upper_is : IsNode f upper above span.to
  pub there : slice_get f.links owner ≡ Some (edge_of upper span.symbol lower number)
  pub link : IsLink rules tokens (state_link_of below span.from span.symbol above span.to)
  pub nonterminal : IsNonterminal rules span.symbol
  pub first : IsFirstMover rules f lower span.symbol

-- a split as it was found: it tells a rule with cuts, all parts are derived, and the rule begins in a state that is reached
pub record IsKnown (rules : List Rule) (tokens : List SymbolId) (f : Findings) (split : PackedSplit) : Type 0 where
  pub rule : Rule
  pub live : Contains rules rule
  pub cuts : List ℕ
  pub tells : TellsSplit rules tokens f.spans rule cuts split
  pub derives : DerivesAlong rules tokens rule.right tells.span.from cuts tells.span.to
  pub state : List Item
  pub reached : IsStateAt rules tokens state tells.span.from
  pub begun : InClosure rules (Contains state) (item_at rule.number 0)

-- the split of a span by the rule and the cuts is among those that were found
pub record IsPacked (rules : List Rule) (tokens : List SymbolId) (f : Findings) (number : ℕ) (rule : Rule) (cuts : List ℕ) : Type 0 where
  pub split : PackedSplit
  pub there : Contains f.splits split
  pub of : split.span ≡ number
  pub tells : TellsSplit rules tokens f.spans rule cuts split

module _ (rules : List Rule) (tokens : List SymbolId) (f : Findings) (graph : IsSoundGraph rules tokens f) where
  pub made : (number : ℕ) (span : Span) → slice_get f.spans number ≡ Some span → IsMade rules tokens f number span
  made number span e =
      let (owner, owns) = at_below f.owners number (omega (arith, slice_get_within f.spans number span e, graph.owned)) in
      let o = graph.owners number owner owns in
      let b = graph.links owner o.edge o.there in
      elim (part_cases b.label) [
        | inl t ↦ absurd (t.0 o.nonterminal)
        | inr s ↦
            let here : slice_get f.spans number ≡ Some (span_of o.edge.symbol b.ends.from b.ends.to) =
            subst (λ n. slice_get f.spans n ≡ Some (span_of o.edge.symbol b.ends.from b.ends.to)) o.label s.1 in
            subst (λ known. IsMade rules tokens f number known) (one_at f.spans number _ _ here e) (record {
              owner = owner;
              owns = owns;
              lower = o.edge.lower;
              below = b.ends.lower;
              lower_is = b.ends.lower_is;
              upper = o.edge.upper;
              above = b.ends.upper;
              upper_is = b.ends.upper_is;
              there = subst (λ n. slice_get f.links owner ≡ Some (edge_of o.edge.upper o.edge.symbol o.edge.lower n)) o.label o.there;
              link = b.link;
              nonterminal = o.nonterminal;
              first = o.first;
            })
      ]

  -- spans of one symbol from one place are made over one node
  one_lower : {m n : ℕ} {span : Span} (a : IsMade rules tokens f m span) (b : IsMade rules tokens f n span) → a.lower ≡ b.lower
  one_lower {span = span} a b = elim (cases_lt a.lower b.lower) [
    | inl less ↦ absurd (b.first a.lower span.from a.below b.below a.lower_is b.lower_is less a.link.move.some)
    | inr most ↦ elim (cases_lt b.lower a.lower) [
      | inl less ↦ absurd (a.first b.lower span.from b.below a.below b.lower_is a.lower_is less b.link.move.some)
      | inr least ↦ omega arith
    ]
  ]

  pub different : AreDifferent f.spans
  different m n span e g =
      let a = made m span e in
      let b = made n span g in
      let owner : a.owner ≡ b.owner =
      graph.one_link a.owner b.owner _ _ _ _ a.there b.there (one_lower a b) refl a.upper_is.there b.upper_is.there refl in
      let edges = one_at f.links b.owner _ _ (subst (λ l. slice_get f.links l ≡ Some (edge_of a.upper span.symbol a.lower m)) owner a.there) b.there in
      ap (λ (edge : Edge). edge.label) edges

  pub known_by : {split : PackedSplit} {trail : List ℕ} {top : ℕ} → IsFoundAlong rules f split trail top → IsKnown rules tokens f split
  known_by {split} told =
      let p = told.reducible in
      let d = derived rules tokens f graph p.along p.node_is p.top_is in
      let left : p.rule.left ≡ told.reduction.left = ap (λ (r : Reduction). r.left) p.made in
      let b = between_from rules tokens f graph told.owner told.owner_is.there p.node_is in
      let to : b.to ≡ told.at = ap (λ (q : Place). q.at) (one_at f.nodes told.owner_is.upper _ _ b.upper_is.there told.owner_is.upper_is) in
      let at : slice_get f.spans split.span ≡ Some (span_of told.reduction.left p.from b.to) = elim (part_cases b.part) [
        | inl t ↦ absurd (t.0 (p.rule, p.live, left))
        | inr s ↦ s.1
      ] in
      record {
        rule = p.rule;
        live = p.live;
        cuts = d.cuts;
        tells = record {
          span = span_of told.reduction.left p.from told.at;
          at = subst (λ j. slice_get f.spans split.span ≡ Some (span_of told.reduction.left p.from j)) to at;
          number = ap (λ (r : Reduction). r.rule) p.made ∙ told.number;
          left = left;
          along = d.stands;
        };
        derives = d.derives;
        state = p.kernel;
        reached = node_state rules tokens f graph p.node_is;
        begun = p.dotted;
      }

  pub known : (split : PackedSplit) → Contains f.splits split → IsKnown rules tokens f split
  known split c = let (trail, top, told) = graph.told split c in known_by told

-- at the end each split of a span was found
pub packed : (rules : List Rule) (tokens : List SymbolId) (f : Findings) → IsDone rules tokens f → (number : ℕ) (span : Span)
    → slice_get f.spans number ≡ Some span
    → (rule : Rule) → Contains rules rule → rule.left ≡ span.symbol → (cuts : List ℕ) → DerivesAlong rules tokens rule.right span.from cuts span.to
    → IsPacked rules tokens f number rule cuts
packed rules tokens f end number span e rule c left cuts along =
    let graph = end.graph in
    let o = made rules tokens f graph number span e in
    let move : HasMove rules (Contains o.below) rule.left = subst (λ x. HasMove rules (Contains o.below) x) (sym left) o.link.move.some in
    let last : span.to ≤ length tokens = Derives-within o.link.derives (Along-within o.link.reached.derives (omega arith)) in
    let w = walk rules tokens (length tokens) (IsPlaced f) (IsLinked f) (saturated rules tokens f end) along o.below (o.lower, o.lower_is) last rule.number
    rule.right 0 (live c) refl (omega arith) (added_by move.1 c) in
    let t = trail_of rules tokens f graph w.path o.lower_is w.node.1 in
    let r = reduced rules tokens f end c w.finished o.lower_is w.node.1 move t in
    let link : r.link ≡ o.owner =
    graph.one_link r.link o.owner _ _ _ _ r.link_is.there o.there refl left r.link_is.upper_is o.upper_is.there refl in
    let edges = one_at f.links o.owner _ _
    (subst (λ l. slice_get f.links l ≡ Some (edge_of r.link_is.upper rule.left o.lower r.label)) link r.link_is.there) o.there in
    let label : r.label ≡ number = ap (λ (edge : Edge). edge.label) edges in
    let owns : slice_get f.owners r.label ≡ Some r.link =
    subst (λ n. slice_get f.owners n ≡ Some r.link) (sym label) (o.owns ∙ ap Some (sym link)) in
    record {
      split = record { span = r.label; rule = rule.number; parts = t.labels };
      there = r.split owns;
      of = label;
      tells = record { span = span; at = subst (λ n. slice_get f.spans n ≡ Some span) (sym label) e; number = refl; left = left; along = t.stands };
    }
