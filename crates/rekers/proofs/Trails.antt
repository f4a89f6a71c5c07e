-- Trails of links: what they derive, that they are told by their labels, and how a walk takes one link more.
use Rattle.std.proofs.Common.{◌≡◌, ℕ, suc, ◌≤◌, ◌⊎◌, inl, inr, List, [], ◌∷◌, drop, refl, sym, ◌∙◌, ap, subst, arith, Contains, slice_get, Some}
use Rattle.std.proofs.lemmas.Option.{slice_get_within}
use Rattle.forest.specs.declared.symbols.SymbolId.{SymbolId}
use Rattle.forest.specs.declared.rules.Rule.{Rule}
use Rattle.forest.specs.Derivation.{Derives, DerivesAlong, by_rule, done, part, IsNonterminal}
use Rattle.forest.proofs.Ascending.{contains_cases}
use Rattle.forest.proofs.Derivations.{Derives-le}
use Rattle.item_sets.specs.declared.item.Item.{Item}
use Rattle.item_sets.specs.Prefixes.{item_at, live}
use Rattle.item_sets.specs.Expansions.{InClosure, HasMove}
use Rattle.item_sets.proofs.Numbering.{IsNumbered, one_right}
use Rattle.gss.specs.declared.stack_graph.Place.{Place}
use Rattle.gss.specs.declared.stack_graph.Edge.{Edge}
use Rattle.gss.specs.PlaceGraphs.{edge_of}
use Rattle.packed_spans.specs.declared.span.Span.{Span}
use Rattle.packed_spans.specs.declared.span.TheConstants.{TOKEN_PART}
use Rattle.packed_spans.specs.Complete.{IsPartAt, of_token, of_span, StandsAlong, no_parts as stands, next_part as stands_on}
use Rattle.packed_spans.specs.Packed.{PackedSplit}
use Rattle.parser_states.specs.declared.reduction.Reduction.{Reduction}
use Rattle.rekers.specs.States.{IsStateAt}
use Rattle.rekers.specs.Size.{IsLink}
use Rattle.rekers.specs.Found.{Findings, IsNode, IsTrail, here, over}
use Rattle.rekers.specs.Reductions.{IsPartial, IsReducible, IsFoundAlong}
use Rattle.rekers.specs.Sound.{IsSoundGraph, state_link_of}
use Rattle.rekers.proofs.Growth.{one_at, one_kernel}
use Rattle.rekers.proofs.Sound.{own_moved, before_dot, drop_at, move_on_left}

-- the ends of an edge, which are nodes
pub record IsBetween (rules : List Rule) (tokens : List SymbolId) (f : Findings) (upper : ℕ) (x : SymbolId) (lower label : ℕ) : Type 0 where
  pub below : List Item
  pub from : ℕ
  pub lower_is : IsNode f lower below from
  pub above : List Item
  pub to : ℕ
  pub upper_is : IsNode f upper above to
  pub link : IsLink rules tokens (state_link_of below from x above to)
  pub part : IsPartAt rules tokens f.spans x from label to

-- a part is a token, or a span
pub part_cases : {rules : List Rule} {tokens : List SymbolId} {spans : List Span} {x : SymbolId} {i j label : ℕ} → IsPartAt rules tokens spans x i label j
    → ((IsNonterminal rules x → ⊥) × (slice_get tokens i ≡ Some x) × (j ≡ suc i) × (label ≡ TOKEN_PART))
    ⊎ (IsNonterminal rules x × (slice_get spans label ≡ Some (record { symbol = x; from = i; to = j })))
part_cases (of_token e n) = inl (n, e, refl, refl)
part_cases (of_span y e) = inr (y, e)

-- where a token or a span of a symbol begins, its label tells its end
pub one_end : {rules : List Rule} {tokens : List SymbolId} {spans : List Span} {x : SymbolId} {i j k label : ℕ} → IsPartAt rules tokens spans x i label j
    → IsPartAt rules tokens spans x i label k → j ≡ k
one_end {spans = spans} {label = label} p q = elim (part_cases p) [
  | inl t ↦ elim (part_cases q) [ inl u ↦ t.2 ∙ sym u.2 | inr s ↦ absurd (t.0 s.0) ]
  | inr s ↦ elim (part_cases q) [ inl u ↦ absurd (u.0 s.0) | inr r ↦ ap (λ (q : Span). q.to) (one_at spans label _ _ s.1 r.1) ]
]

pub record Begins (links : List Edge) (node : ℕ) (trail : List ℕ) (x : SymbolId) (xs : List SymbolId) (label : ℕ) (labels : List ℕ) (top : ℕ) : Type 0 where
  pub link : ℕ
  pub rest : List ℕ
  pub is : trail ≡ link ∷ rest
  pub middle : ℕ
  pub edge : slice_get links link ≡ Some (edge_of middle x node label)
  pub on : IsTrail links middle rest xs labels top

pub begins : {links : List Edge} {node top : ℕ} {trail labels all : List ℕ} {symbols : List SymbolId} {x : SymbolId} {xs : List SymbolId} {label : ℕ}
    → IsTrail links node trail symbols all top → symbols ≡ x ∷ xs → all ≡ label ∷ labels → Begins links node trail x xs label labels top
begins here e f = absurd cc
begins {links} {node} {top} {labels = labels} {x = x} {xs = xs} {label = label}
    (over {middle = middle} {link = link} {x = y} {label = given} {trail = rest} {xs = ys} {labels = more} edge on) e f =
    let head : y ≡ x = cc in
    let tail : ys ≡ xs = cc in
    let first : given ≡ label = cc in
    let others : more ≡ labels = cc in
    record {
      link = link;
      rest = rest;
      is = refl;
      middle = middle;
      edge = subst (λ z. slice_get links link ≡ Some (edge_of middle z node label)) head
          (subst (λ n. slice_get links link ≡ Some (edge_of middle y node n)) first edge);
      on = subst (λ zs. IsTrail links middle rest zs labels top) tail (subst (λ ns. IsTrail links middle rest ys ns top) others on);
    }

ends_here : {links : List Edge} {node top : ℕ} {trail labels : List ℕ} {symbols : List SymbolId} → IsTrail links node trail symbols labels top
    → symbols ≡ [] → (trail ≡ []) × (node ≡ top)
ends_here here e = (refl, refl)
ends_here (over edge on) e = absurd cc

module _ (rules : List Rule) (tokens : List SymbolId) (f : Findings) (graph : IsSoundGraph rules tokens f) where
  pub between : (link : ℕ) {upper : ℕ} {x : SymbolId} {lower label : ℕ} → slice_get f.links link ≡ Some (edge_of upper x lower label)
      → IsBetween rules tokens f upper x lower label
  between link e =
      let is = graph.links link _ e in
      record {
        below = is.ends.lower;
        from = is.ends.from;
        lower_is = is.ends.lower_is;
        above = is.ends.upper;
        to = is.ends.to;
        upper_is = is.ends.upper_is;
        link = is.link;
        part = is.label;
      }

  -- the upper end of an edge whose lower node is known
  pub record IsAbove (upper : ℕ) (x : SymbolId) (label : ℕ) (s : List Item) (i : ℕ) : Type 0 where
    pub above : List Item
    pub to : ℕ
    pub upper_is : IsNode f upper above to
    pub link : IsLink rules tokens (state_link_of s i x above to)
    pub part : IsPartAt rules tokens f.spans x i label to

  pub between_from : (link : ℕ) {upper : ℕ} {x : SymbolId} {lower label : ℕ} → slice_get f.links link ≡ Some (edge_of upper x lower label)
      → {s : List Item} {i : ℕ} → IsNode f lower s i
      → IsAbove upper x label s i
  between_from link {upper} {x} {lower} {label} e {s} {i} n =
      let b = between link e in
      let (kernel, place) = one_kernel b.lower_is n in
      record {
        above = b.above;
        to = b.to;
        upper_is = b.upper_is;
        link = subst (λ k. IsLink rules tokens (state_link_of s k x b.above b.to)) place
            (subst (λ t. IsLink rules tokens (state_link_of t b.from x b.above b.to)) kernel b.link);
        part = subst (λ k. IsPartAt rules tokens f.spans x k label b.to) place b.part;
      }

  -- two links from one node by one symbol with one label are one
  pub one_edge : (a b upper above : ℕ) (x : SymbolId) (lower label : ℕ) → slice_get f.links a ≡ Some (edge_of upper x lower label)
      → slice_get f.links b ≡ Some (edge_of above x lower label) → (a ≡ b) × (upper ≡ above)
  one_edge a b upper above x lower label e g =
      let p = between a e in
      let q = between_from b g p.lower_is in
      let level : p.to ≡ q.to = one_end p.part q.part in
      let same : a ≡ b = graph.one_link a b _ _ _ _ e g refl refl p.upper_is.there q.upper_is.there level in
      (same, ap (λ (edge : Edge). edge.upper) (one_at f.links b _ _ (subst (λ n. slice_get f.links n ≡ Some (edge_of upper x lower label)) same e) g))

  -- a trail is told by where it begins, its symbols and its labels
  pub one_trail : {node top other : ℕ} {trail trail' labels : List ℕ} {xs : List SymbolId} → IsTrail f.links node trail xs labels top
      → IsTrail f.links node trail' xs labels other → (trail ≡ trail') × (top ≡ other)
  one_trail here t = let (e, g) = ends_here t refl in (sym e, g)
  one_trail {other = other} (over {lower = lower} {middle = middle} {link = link} {x = x} {label = label} {trail = rest} {xs = xs} {labels = labels} edge on) t
      =
      let b = begins t refl refl in
      let (same, above) = one_edge link b.link middle b.middle x lower label edge b.edge in
      let (tails, tops) = one_trail on (subst (λ n. IsTrail f.links n b.rest xs labels other) (sym above) b.on) in
      (ap (λ n. n ∷ rest) same ∙ ap (λ ns. b.link ∷ ns) tails ∙ sym b.is, tops)

  -- what a trail derives, and that its labels stand along it
  pub record IsDerived (node : ℕ) (xs : List SymbolId) (labels : List ℕ) (i j : ℕ) : Type 0 where
    pub cuts : List ℕ
    pub derives : DerivesAlong rules tokens xs i cuts j
    pub stands : StandsAlong rules tokens f.spans xs i labels cuts j

  pub derived : {node top : ℕ} {trail labels : List ℕ} {xs : List SymbolId} → IsTrail f.links node trail xs labels top
      → {s w : List Item} {i j : ℕ} → IsNode f node s i → IsNode f top w j → IsDerived node xs labels i j
  derived {node} here {i = i} n m =
      let same = (one_kernel n m).1 in
      record {
        cuts = [];
        derives = subst (λ k. DerivesAlong rules tokens [] i [] k) same done;
        stands = subst (λ k. StandsAlong rules tokens f.spans [] i [] [] k) same stands;
      }
  derived (over {link = link} edge on) n m =
      let next = between_from link edge n in
      let rest = derived on next.upper_is m in
      record { cuts = next.to ∷ rest.cuts; derives = part next.link.derives rest.derives; stands = stands_on next.part rest.stands }

  -- the walk takes one link more down from its node
  pub one_down : IsNumbered rules → {reduction : Reduction} {node left : ℕ} {trail labels : List ℕ} {top at : ℕ}
      → IsPartial rules f reduction node (suc left) trail labels top at → (link lower label : ℕ) (x : SymbolId)
      → slice_get f.links link ≡ Some (edge_of node x lower label) → IsPartial rules f reduction lower left (link ∷ trail) (label ∷ labels) top at
  one_down numbers {reduction} {node} {left} {trail} {labels} {top} p link lower label x edge =
      let b = between link edge in
      let (kernel, place) = one_kernel b.upper_is p.node_is in
      let dotted : InClosure rules (Contains b.above) (item_at p.rule.number (suc left)) =
      subst (λ t. InClosure rules (Contains t) (item_at p.rule.number (suc left))) (sym kernel) p.dotted in
      let (back, next) = before_dot (b.link.move.list.within (item_at p.rule.number (suc left)) (own_moved dotted (omega arith))) left refl in
      let same : next.right ≡ p.rule.right = (one_right rules numbers).one p.rule.number _ _ next.has (live p.live) in
      let at : slice_get p.rule.right left ≡ Some x = rw same at next.at_dot in
      record {
        rule = p.rule;
        live = p.live;
        made = p.made;
        upper = p.upper;
        top_is = p.top_is;
        finished = p.finished;
        within = omega (arith, slice_get_within p.rule.right left x at);
        along = subst (λ xs. IsTrail f.links lower (link ∷ trail) xs (label ∷ labels) top) (sym (drop_at p.rule.right left x at)) (over edge p.along);
        kernel = b.below;
        from = b.from;
        node_is = b.lower_is;
        dotted = back;
      }

  pub node_state : {node : ℕ} {s : List Item} {i : ℕ} → IsNode f node s i → IsStateAt rules tokens s i
  node_state {node} {s} {i} n =
      let (kernel, there, is) = graph.nodes node _ n.there in
      subst (λ t. IsStateAt rules tokens t i) (one_at f.kernels n.state kernel s there n.is_kernel) is

  -- a whole trail down from a finished rule: its symbol is derived, and the lower node moves on it
  pub reduces_to : IsNumbered rules → {reduction : Reduction} {lower : ℕ} {trail labels : List ℕ} {top at : ℕ}
      → (p : IsReducible rules f reduction lower trail labels top at)
      → IsNonterminal rules reduction.left × Derives rules tokens reduction.left p.from at × HasMove rules (Contains p.kernel) reduction.left
  reduces_to numbers {reduction} {at = at} p =
      let d = derived p.along p.node_is p.top_is in
      let left : p.rule.left ≡ reduction.left = ap (λ (r : Reduction). r.left) p.made in
      let state = node_state p.node_is in (
        (p.rule, p.live, left),
        subst (λ x. Derives rules tokens x p.from at) left (by_rule p.live d.derives),
        subst (λ x. HasMove rules (Contains p.kernel) x) left (move_on_left numbers p.kernel p.from p.rule state p.live p.dotted refl),
      )

  -- the rule of a reduction is told by its number
  pub one_rule : IsNumbered rules → {a b : Reduction} {node other left rest : ℕ} {trail trail' labels labels' : List ℕ} {top above at to : ℕ}
      (p : IsPartial rules f a node left trail labels top at) (q : IsPartial rules f b other rest trail' labels' above to) → a.rule ≡ b.rule → p.rule ≡ q.rule
  one_rule numbers p q e =
      let one : p.rule.number ≡ q.rule.number = ap (λ (r : Reduction). r.rule) p.made ∙ e ∙ sym (ap (λ (r : Reduction). r.rule) q.made) in
      numbers.same p.rule q.rule p.live q.live one

  -- reductions of one number from one node with the same labels go along one trail
  pub one_reducible : IsNumbered rules → {a b : Reduction} {lower : ℕ} {trail trail' labels : List ℕ} {top above at to : ℕ}
      → IsReducible rules f a lower trail labels top at → IsReducible rules f b lower trail' labels above to → a.rule ≡ b.rule → (trail ≡ trail')
      × (top ≡ above)
  one_reducible numbers {lower = lower} {trail' = trail'} {labels = labels} {above = above} p q e =
      let same : q.rule ≡ p.rule = sym (one_rule numbers p q e) in
      one_trail p.along (subst (λ (r : Rule). IsTrail f.links lower trail' (drop 0 r.right) labels above) same q.along)

  -- a split was found along one trail
  pub one_told : IsNumbered rules → {split : PackedSplit} {trail trail' : List ℕ} {top above : ℕ} → IsFoundAlong rules f split trail top
      → IsFoundAlong rules f split trail' above → (trail ≡ trail') × (top ≡ above)
  one_told numbers {split} {trail} {trail'} {top} {above} a b =
      let owner : a.owner ≡ b.owner = one_at f.owners split.span _ _ a.owns b.owns in
      let edges = one_at f.links b.owner _ _
      (subst (λ l. slice_get f.links l ≡ Some (edge_of a.owner_is.upper a.reduction.left a.lower split.span)) owner a.owner_is.there) b.owner_is.there in
      let lower : b.lower ≡ a.lower = ap (λ (e : Edge). e.lower) (sym edges) in
      one_reducible numbers a.reducible (subst (λ n. IsReducible rules f b.reduction n trail' split.parts above b.at) lower b.reducible)
      (a.number ∙ sym b.number)

  -- up a link the places do not fall
  pub link_rises : (link : ℕ) {upper : ℕ} {x : SymbolId} {lower label : ℕ} → slice_get f.links link ≡ Some (edge_of upper x lower label)
      → {s t : List Item} {i j : ℕ} → IsNode f lower s i → IsNode f upper t j → i ≤ j
  link_rises link e n m =
      let b = between link e in
      omega (arith, Derives-le b.link.derives, (one_kernel b.lower_is n).1, (one_kernel b.upper_is m).1)

  -- each link of a trail leads up to no later place than the trail does
  pub trail_rises : {node top : ℕ} {trail labels : List ℕ} {xs : List SymbolId} → IsTrail f.links node trail xs labels top
      → (link : ℕ) → Contains trail link → (edge : Edge) → slice_get f.links link ≡ Some edge → (upper last : Place)
      → slice_get f.nodes edge.upper ≡ Some upper → slice_get f.nodes top ≡ Some last → upper.at ≤ last.at
  trail_rises here link (k, l, e) edge at upper last up there = absurd (omega arith)
  trail_rises (over {lower = lower} {middle = middle} {upper = top} {link = first} {x = x} {label = label} {trail = rest} here_is on) link c edge at upper last
      up there =
      elim (contains_cases first rest link c) [
        | inl same ↦
            let edges = one_at f.links link _ _ (subst (λ l. slice_get f.links l ≡ Some (edge_of middle x lower label)) same here_is) at in
            let mid : slice_get f.nodes middle ≡ Some upper = subst (λ (e : Edge). slice_get f.nodes e.upper ≡ Some upper) (sym edges) up in
            let (kernel, is, reached) = graph.nodes middle upper mid in
            let (kernel', is', reached') = graph.nodes top last there in
            let low : IsNode f middle kernel upper.at = record { state = upper.state; there = mid; is_kernel = is } in
            let high : IsNode f top kernel' last.at = record { state = last.state; there = there; is_kernel = is' } in
            omega (arith, along_rises on low high)
        | inr d ↦ trail_rises on link d edge at upper last up there
      ]
    where
      along_rises : {node top : ℕ} {trail labels : List ℕ} {xs : List SymbolId} → IsTrail f.links node trail xs labels top → {s t : List Item} {i j : ℕ}
          → IsNode f node s i → IsNode f top t j → i ≤ j
      along_rises here n m = omega (arith, (one_kernel n m).1)
      along_rises (over {link = link} e on) n m =
          let next = between_from link e n in
          omega (arith, Derives-le next.link.derives, along_rises on next.upper_is m)
