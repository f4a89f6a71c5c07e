-- A parser with one more link is sound.
use Rattle.std.proofs.Common.{◌≡◌, ℕ, ◌<◌, inl, inr, List, [], ◌∷◌, ◌++◌, length, sym, ◌∙◌, ap, subst, arith, slice_get, Some, length-append, Bool, IsTrue}
use Rattle.std.specs.declared.alloc.Global.{Global}
use Rattle.std.specs.declared.vec.Vec.{Vec}
use Rattle.forest.specs.declared.symbols.SymbolId.{SymbolId}
use Rattle.forest.specs.declared.rules.Rule.{Rule}
use Rattle.forest.specs.Derivation.{IsNonterminal}
use Rattle.item_sets.specs.declared.item.Item.{Item}
use Rattle.gss.specs.declared.stack_graph.Edge.{Edge}
use Rattle.gss.specs.PlaceGraphs.{PlaceGraph, edge_of}
use Rattle.packed_spans.specs.declared.span.Span.{Span}
use Rattle.packed_spans.specs.declared.span.TheConstants.{TOKEN_PART}
use Rattle.packed_spans.specs.Packed.{Packed, PackedSplit}
use Rattle.packed_spans.specs.Complete.{IsPartAt, of_span}
use Rattle.rekers.specs.declared.parser.Parser.{Parser}
use Rattle.forest.specs.Numbers.{KeepsNumbers}
use Rattle.rekers.specs.Found.{found, Grows}
use Rattle.rekers.specs.Reductions.{IsLinkTo}
use Rattle.rekers.specs.Sound.{IsSoundParser, IsFirstMover, IsFlat, IsOwner}
use Rattle.rekers.specs.Steps.{IsLinkable, IsUpper, IsUnlinked}
use Rattle.rekers.proofs.Growth.{keeps_same, keeps_append}
use Rattle.rekers.proofs.NewNodes.{at_end, old_or_last}
use Rattle.rekers.proofs.PlacedNodes.{graph_is}
use Rattle.rekers.proofs.NewLinks.{with_link, link_grows_by, link_joins, link_level, link_openers, new_owner}

-- what is packed is told by its spans and splits
packed_is : (packed : Packed) (spans : List Span) (p : Packed) → packed.spans ≡ spans → packed.splits ≡ p.splits
    → record { spans = spans; splits = p.splits } ≡ packed
packed_is packed spans p e g =
    sym (ap (λ ss. let it : Packed = record { spans = ss; splits = packed.splits } in it) e
    ∙ ap (λ ts. let it : Packed = record { spans = spans; splits = ts } in it) g)

module _ (rules : List Rule) (tokens : List SymbolId) (p : Parser) (sound : IsSoundParser rules tokens p) (lower upper : ℕ) (x : SymbolId)
    (linkable : IsLinkable rules tokens (found p) lower x p.level.at) (is_upper : IsUpper rules (found p) p.level.at lower x upper)
    (unlinked : IsUnlinked (found p) p.level.first_link lower x) where
  -- the level stays flat where the link leads down from it
  flat_on : (label : ℕ) (spans : List Span) (owners : List ℕ) (flag : Bool) → (IsTrue flag → IsTrue p.is_flat × (lower < p.level.first_node)) → IsTrue flag
      → IsFlat (with_link (found p) (edge_of upper x lower label) spans owners) p.level.first_node p.level.first_link
  flat_on label spans owners flag says on = λ link edge e here. elim (old_or_last p.stacks.links (edge_of upper x lower label) link edge e) [
    | inl before ↦ sound.flat (says on).0 link edge before here
    | inr last ↦ subst (λ (q : Edge). q.lower < p.level.first_node) (sym last.1) (says on).1
  ]

  pub attach_sound : (graph : PlaceGraph) (label : ℕ) (flag : Bool) → graph.nodes ≡ p.stacks.nodes
      → graph.links ≡ p.stacks.links ++ edge_of upper x lower label ∷ []
      → (IsTrue flag → IsTrue p.is_flat × (lower < p.level.first_node)) → IsPartAt rules tokens p.spans.spans x linkable.from label p.level.at
      → IsSoundParser rules tokens (record p { stacks = graph; is_flat = flag })
  attach_sound graph label flag nodes links says part =
      let edge = edge_of upper x lower label in
      let keep = keeps_same p.spans.spans in
      let keeps = keeps_same p.owners.items in
      let joined : IsSoundParser rules tokens (record p { stacks = record { nodes = p.stacks.nodes; links = p.stacks.links ++ edge ∷ [] }; is_flat = flag }) =
      record {
        numbered = sound.numbered;
        terminals = sound.terminals;
        expanded = sound.expanded;
        graph = link_joins rules tokens (found p) sound.graph p.level.at p.level.first_node p.level.first_link sound.level lower upper label x linkable is_upper
            unlinked
            p.spans.spans p.owners.items keep keeps part sound.graph.owned (λ number owner e. inl e);
        level = link_level rules tokens (found p) sound.graph p.level.at p.level.first_node p.level.first_link sound.level lower upper label x linkable is_upper
            unlinked
            p.spans.spans p.owners.items keep keeps;
        openers = link_openers rules tokens (found p) sound.graph p.level.at p.level.first_node p.level.first_link sound.level lower upper label x linkable
            is_upper
            unlinked p.spans.spans p.owners.items keep keeps p.openers.items sound.openers;
        flat = flat_on label p.spans.spans p.owners.items flag says;
        spans_below = sound.spans_below;
      } in
      subst (λ (g : PlaceGraph). IsSoundParser rules tokens (record p { stacks = g; is_flat = flag }))
      (graph_is graph p.stacks.nodes (p.stacks.links ++ edge ∷ []) nodes links) joined

  -- a span of its own
  abbrev pub own_span : Span
  own_span = record { symbol = x; from = linkable.from; to = p.level.at }

  pub own_sound : (graph : PlaceGraph) (packed : Packed) (owners : Vec ℕ Global) (flag : Bool) → IsNonterminal rules x → IsFirstMover rules (found p) lower x
      → length p.spans.spans < TOKEN_PART → graph.nodes ≡ p.stacks.nodes
      → graph.links ≡ p.stacks.links ++ edge_of upper x lower (length p.spans.spans) ∷ [] → packed.spans ≡ p.spans.spans ++ own_span ∷ []
      → packed.splits ≡ p.spans.splits → owners.items ≡ p.owners.items ++ length p.stacks.links ∷ []
      → (IsTrue flag → IsTrue p.is_flat × (lower < p.level.first_node))
      → IsSoundParser rules tokens (record p { stacks = graph; spans = packed; owners = owners; is_flat = flag })
      × Grows (found p) (found (record p { stacks = graph; spans = packed; owners = owners; is_flat = flag }))
  own_sound graph packed owners flag nonterminal first few nodes links spans splits owns says =
      let label = length p.spans.spans in
      let edge = edge_of upper x lower label in
      let spans' = p.spans.spans ++ own_span ∷ [] in
      let keep = keeps_append p.spans.spans (own_span ∷ []) in
      let keeps = subst (λ os. KeepsNumbers p.owners.items os) (sym owns) (keeps_append p.owners.items (length p.stacks.links ∷ [])) in
      let part : IsPartAt rules tokens spans' x linkable.from label p.level.at = of_span nonterminal (at_end p.spans.spans own_span) in
      let owned : length owners.items ≡ length spans' = omega (
        arith,
        ap length owns,
        length-append p.owners.items (length p.stacks.links ∷ []),
        length-append p.spans.spans (own_span ∷ []),
        sound.graph.owned,
      ) in
      let owner_is = new_owner rules tokens (found p) sound.graph p.level.at p.level.first_node p.level.first_link sound.level lower upper label x linkable
      is_upper unlinked
      spans' owners.items keep keeps nonterminal first in
      let joined : IsSoundParser rules tokens (record p {
        stacks = record { nodes = p.stacks.nodes; links = p.stacks.links ++ edge ∷ [] };
        spans = record { spans = spans'; splits = p.spans.splits };
        owners = owners;
        is_flat = flag;
      }) =
      record {
        numbered = sound.numbered;
        terminals = sound.terminals;
        expanded = sound.expanded;
        graph = link_joins rules tokens (found p) sound.graph p.level.at p.level.first_node p.level.first_link sound.level lower upper label x linkable is_upper
            unlinked
            spans' owners.items keep keeps part owned
            (λ number owner e. elim (old_or_last p.owners.items (length p.stacks.links) number owner (subst (λ os. slice_get os number ≡ Some owner) owns e)) [
              | inl before ↦ inl before
              | inr last ↦ inr (subst (λ o. IsOwner rules (with_link (found p) edge spans' owners.items) number o) (sym last.1)
                  (subst (λ n. IsOwner rules (with_link (found p) edge spans' owners.items) n (length p.stacks.links)) (sym (last.0 ∙ sound.graph.owned))
                  owner_is))
            ]);
        level = link_level rules tokens (found p) sound.graph p.level.at p.level.first_node p.level.first_link sound.level lower upper label x linkable is_upper
            unlinked
            spans' owners.items keep keeps;
        openers = link_openers rules tokens (found p) sound.graph p.level.at p.level.first_node p.level.first_link sound.level lower upper label x linkable
            is_upper
            unlinked spans' owners.items keep keeps p.openers.items sound.openers;
        flat = flat_on label spans' owners.items flag says;
        spans_below = omega (arith, few, length-append p.spans.spans (own_span ∷ []));
      } in
      let grown = link_grows_by rules tokens (found p) sound.graph p.level.at p.level.first_node p.level.first_link sound.level lower upper label x linkable
      is_upper unlinked
      spans' owners.items keep keeps in
      let graphs = graph_is graph p.stacks.nodes (p.stacks.links ++ edge ∷ []) nodes links in
      let packs = packed_is packed spans' p.spans spans splits in (
        subst (λ (k : Packed). IsSoundParser rules tokens (record p { stacks = graph; spans = k; owners = owners; is_flat = flag })) packs
            (subst (λ (g : PlaceGraph). IsSoundParser rules tokens (record p {
              stacks = g;
              spans = record { spans = spans'; splits = p.spans.splits };
              owners = owners;
              is_flat = flag;
            })) graphs joined),
        subst (λ (k : Packed). Grows (found p) (found (record p { stacks = graph; spans = k; owners = owners; is_flat = flag }))) packs
            (subst (λ (g : PlaceGraph). Grows (found p) (found (record p {
              stacks = g;
              spans = record { spans = spans'; splits = p.spans.splits };
              owners = owners;
              is_flat = flag;
            }))) graphs grown),
      )

  -- the link is there
  pub linked_to : (graph : PlaceGraph) (kernels : List (List Item)) (label link : ℕ) (spans : List Span) (splits : List PackedSplit) (owners : List ℕ)
      → graph.nodes ≡ p.stacks.nodes → graph.links ≡ p.stacks.links ++ edge_of upper x lower label ∷ [] → link ≡ length p.stacks.links
      → IsLinkTo (record { kernels = kernels; nodes = graph.nodes; links = graph.links; spans = spans; splits = splits; owners = owners }) link lower x
      p.level.at label
  linked_to graph kernels label link spans splits owners nodes links last = record {
    upper = upper;
    state = is_upper.state;
    there = rw (links, last) (at_end p.stacks.links (edge_of upper x lower label));
    upper_is = rw nodes is_upper.there;
  }
