-- One more link keeps what is found sound, under a label that is known or as the owner of a new span.
use Rattle.std.proofs.Common.{◌≡◌, ℕ, ◌≤◌, ◌⊎◌, inl, inr, List, [], ◌∷◌, ◌++◌, length, refl, sym, ◌∙◌, ap, subst, arith, slice_get, Some, length-append}
use Rattle.std.proofs.lemmas.Bool.{cases_lt}
use Rattle.forest.specs.declared.symbols.SymbolId.{SymbolId}
use Rattle.forest.specs.declared.rules.Rule.{Rule}
use Rattle.forest.specs.Derivation.{IsNonterminal}
use Rattle.item_sets.specs.Expansions.{IsMoveOf}
use Rattle.gss.specs.declared.stack_graph.Place.{Place}
use Rattle.gss.specs.declared.stack_graph.Edge.{Edge}
use Rattle.gss.specs.PlaceGraphs.{place_with, edge_of}
use Rattle.packed_spans.specs.declared.span.Span.{Span}
use Rattle.packed_spans.specs.Complete.{IsPartAt}
use Rattle.forest.specs.Numbers.{KeepsNumbers}
use Rattle.rekers.specs.Found.{Findings, Grows}
use Rattle.rekers.specs.Sound.{IsSoundGraph, IsSoundLink, IsOwner, IsFirstMover, IsLevel, AreOpeners}
use Rattle.rekers.specs.Steps.{IsLinkable, IsUpper, IsUnlinked}
use Rattle.rekers.proofs.Growth.{one_at, one_kernel, keeps_same, keeps_append, node_grows, node_below, told_grows}
use Rattle.rekers.proofs.NewNodes.{at_end, old_or_last, link_stays, owner_stays, first_stays}
use Rattle.rekers.proofs.Trails.{node_state}

-- the link, with more spans and owners
abbrev pub with_link : Findings → Edge → List Span → List ℕ → Findings
with_link f edge spans owners =
    record { kernels = f.kernels; nodes = f.nodes; links = f.links ++ edge ∷ []; spans = spans; splits = f.splits; owners = owners }

-- a node that the level's move leads to is of the level
pub upper_here : (f : Findings) (at first_node first_link : ℕ) → IsLevel f at first_node first_link → (node : ℕ) (place : Place)
    → slice_get f.nodes node ≡ Some place
    → place.at ≡ at → first_node ≤ node
upper_here f at first_node first_link level node place e here = elim (cases_lt node first_node) [
  | inl below ↦ absurd (omega (arith, level.nodes_before node place e below, here))
  | inr above ↦ above
]

-- a link whose upper end is at the level's place is of the level
pub link_here : (f : Findings) (at first_node first_link : ℕ) → IsLevel f at first_node first_link → (link : ℕ) (edge : Edge)
    → slice_get f.links link ≡ Some edge
    → (place : Place) → slice_get f.nodes edge.upper ≡ Some place → place.at ≡ at → first_link ≤ link
link_here f at first_node first_link level link edge e place up here = elim (cases_lt link first_link) [
  | inl below ↦ absurd (omega (
    arith,
    level.links_before link edge e below,
    upper_here f at first_node first_link level edge.upper place up here,
  ))
  | inr above ↦ above
]

module _ (rules : List Rule) (tokens : List SymbolId) (f : Findings) (sound : IsSoundGraph rules tokens f) (at first_node first_link : ℕ)
    (level : IsLevel f at first_node first_link) (lower upper label : ℕ) (x : SymbolId) (linkable : IsLinkable rules tokens f lower x at)
    (is_upper : IsUpper rules f at lower x upper) (unlinked : IsUnlinked f first_link lower x) (spans : List Span) (owners : List ℕ)
    (spans_keep : KeepsNumbers f.spans spans) (owners_keep : KeepsNumbers f.owners owners) where
  abbrev edge : Edge
  edge = edge_of upper x lower label

  abbrev g : Findings
  g = with_link f (edge_of upper x lower label) spans owners

  pub link_grows_by : Grows f (with_link f (edge_of upper x lower label) spans owners)
  link_grows_by = record {
    kernels = keeps_same f.kernels;
    nodes = keeps_same f.nodes;
    links = keeps_append f.links (edge ∷ []);
    spans = spans_keep;
    splits = λ split c. c;
    owners = owners_keep;
  }

  move : IsMoveOf rules linkable.kernel x is_upper.behind.upper
  move = subst (λ k. IsMoveOf rules k x is_upper.behind.upper) (one_kernel is_upper.behind.node linkable.node).0 is_upper.behind.move

  -- the new link is sound
  new_link : IsPartAt rules tokens spans x linkable.from label at → IsSoundLink rules tokens (with_link f (edge_of upper x lower label) spans owners)
      (edge_of upper x lower label)
  new_link part = record {
    ends = record {
      lower = linkable.kernel;
      from = linkable.from;
      lower_is = node_grows f g link_grows_by linkable.node;
      upper = is_upper.behind.upper;
      to = at;
      upper_is = record { state = is_upper.state; there = is_upper.there; is_kernel = is_upper.behind.is_kernel };
    };
    link = record { reached = node_state rules tokens f sound linkable.node; derives = linkable.derives; move = move };
    label = part;
  }

  -- no old link is the same
  other_link : (link : ℕ) (old : Edge) (place : Place) → slice_get f.links link ≡ Some old → old.lower ≡ lower → old.symbol ≡ x
      → slice_get f.nodes old.upper ≡ Some place → place.at ≡ at → ⊥
  other_link link old place e low same up here = unlinked link (link_here f at first_node first_link level link old e place up here, old, e, low, same)

  pub link_joins : IsPartAt rules tokens spans x linkable.from label at → length owners ≡ length spans
      → ((number owner : ℕ) → slice_get owners number ≡ Some owner → (slice_get f.owners number ≡ Some owner)
      ⊎ IsOwner rules (with_link f (edge_of upper x lower label) spans owners) number owner)
      → IsSoundGraph rules tokens (with_link f (edge_of upper x lower label) spans owners)
  link_joins part owned new_owner = record {
    one_state = sound.one_state;
    one_node = sound.one_node;
    begun = node_grows f g link_grows_by sound.begun;
    nodes = sound.nodes;
    rising = sound.rising;
    links = λ link old e. elim (old_or_last f.links edge link old e) [
      | inl before ↦ link_stays rules tokens f g sound link_grows_by (sound.links link old before)
      | inr last ↦ subst (λ (one : Edge). IsSoundLink rules tokens g one) (sym last.1) (new_link part)
    ];
    one_link = λ a b one other up above e h low same there there' level_same. elim (old_or_last f.links edge a one e) [
      | inl before ↦ elim (old_or_last f.links edge b other h) [
        | inl also ↦ sound.one_link a b one other up above before also low same there there' level_same
        | inr last ↦
            let above_at : above.at ≡ at = ap (λ (p : Place). p.at) (one_at f.nodes upper above _
            (subst (λ (q : Edge). slice_get f.nodes q.upper ≡ Some above) last.1 there') is_upper.there) in
            absurd (other_link a one up before (low ∙ ap (λ (q : Edge). q.lower) last.1) (same ∙ ap (λ (q : Edge). q.symbol) last.1) there
            (level_same ∙ above_at))
      ]
      | inr last ↦
          let up_at : up.at ≡ at = ap (λ (p : Place). p.at) (one_at f.nodes upper up _
          (subst (λ (q : Edge). slice_get f.nodes q.upper ≡ Some up) last.1 there) is_upper.there) in
          elim (old_or_last f.links edge b other h) [
            | inl before ↦ absurd (other_link b other above before (sym low ∙ ap (λ (q : Edge). q.lower) last.1) (sym same ∙ ap (λ (q : Edge). q.symbol) last.1)
                there'
                (sym level_same ∙ up_at))
            | inr also ↦ last.0 ∙ sym also.0
          ]
    ];
    owned = owned;
    owners = λ number owner e. elim (new_owner number owner e) [
      | inl old ↦ owner_stays rules tokens f g sound link_grows_by (sound.owners number owner old)
      | inr new ↦ new
    ];
    told = λ split c. let (trail, top, is) = sound.told split c in (trail, top, told_grows f g link_grows_by is);
    distinct = sound.distinct;
  }

  -- the link makes the span that is its label
  pub new_owner : IsNonterminal rules x → IsFirstMover rules f lower x
      → IsOwner rules (with_link f (edge_of upper x lower label) spans owners) label (length f.links)
  new_owner nonterminal first = record {
    edge = edge;
    there = at_end f.links edge;
    label = refl;
    nonterminal = nonterminal;
    first = first_stays rules tokens f g sound link_grows_by (node_below linkable.node) first;
  }

  pub link_level : IsLevel (with_link f (edge_of upper x lower label) spans owners) at first_node first_link
  link_level = record {
    nodes_within = level.nodes_within;
    links_within = omega (arith, level.links_within, length-append f.links (edge ∷ []));
    nodes_before = level.nodes_before;
    nodes_here = level.nodes_here;
    links_before = λ link old e l. elim (old_or_last f.links edge link old e) [
      | inl before ↦ level.links_before link old before l
      | inr last ↦ absurd (omega (arith, l, last.0, level.links_within))
    ];
    links_here = λ link old e l. elim (old_or_last f.links edge link old e) [
      | inl before ↦ level.links_here link old before l
      | inr last ↦ subst (λ (q : Edge). first_node ≤ q.upper) (sym last.1)
          (upper_here f at first_node first_link level upper (place_with is_upper.state at) is_upper.there refl)
    ];
  }

  pub link_openers : (openers : List ℕ) → AreOpeners rules f openers at → AreOpeners rules (with_link f (edge_of upper x lower label) spans owners) openers at
  link_openers openers are = record {
    size = are.size;
    each = λ i node e.
        let is = are.each i node e in
        record {
          within = is.within;
          behind = is.behind;
          none_before = λ other kernel n l. is.none_before other kernel (record { state = n.state; there = n.there; is_kernel = n.is_kernel }) l;
        };
  }
