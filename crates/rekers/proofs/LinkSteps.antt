-- What a link is known by, before and after a step.
use Rattle.std.proofs.Common.{◌≡◌, ℕ, ◌<◌, ◌≤◌, ◌≢◌, inl, inr, List, [], ◌∷◌, ◌++◌, length, sym, ◌∙◌, ap, subst, arith, slice_get, Some}
use Rattle.std.proofs.lemmas.Option.{slice_get_within}
use Rattle.forest.specs.declared.symbols.SymbolId.{SymbolId}
use Rattle.forest.specs.declared.rules.Rule.{Rule}
use Rattle.forest.specs.Derivation.{Derives, IsNonterminal}
use Rattle.item_sets.specs.declared.item.Item.{Item}
use Rattle.gss.specs.declared.stack_graph.Place.{Place}
use Rattle.gss.specs.declared.stack_graph.Edge.{Edge}
use Rattle.gss.specs.PlaceGraphs.{place_with, edge_of, LeadsToBy}
use Rattle.edit_log.specs.History.{Grammar}
use Rattle.packed_spans.specs.Complete.{IsPartAt}
use Rattle.rekers.specs.declared.parser.Parser.{Parser}
use Rattle.rekers.specs.declared.level.Level.{Level}
use Rattle.rekers.specs.Found.{Findings, found, IsNode, Grows}
use Rattle.rekers.specs.Reductions.{IsLinkTo}
use Rattle.rekers.specs.Sound.{IsSoundParser, IsSoundGraph, IsFirstMover}
use Rattle.rekers.specs.Steps.{IsLinkable, IsUnlinked, IsLinkBy, IsFirstOf}
use Rattle.rekers.proofs.Growth.{one_at, one_kernel, node_grows}
use Rattle.rekers.proofs.Trails.{between, part_cases}
use Rattle.rekers.proofs.PlacedNodes.{highest}
use Rattle.rekers.proofs.NewNodes.{old_or_last, first_stays}

module _ (rules : List Rule) (tokens : List SymbolId) (p : Parser) (sound : IsSoundParser rules tokens p) where
  -- the label of a link by a left side is a span that a link made
  pub label_owned : {link lower at label : ℕ} {x : SymbolId} → IsNonterminal rules x → IsLinkTo (found p) link lower x at label → label < length p.owners.items
  label_owned {link} {label = label} nonterminal is =
      let b = between rules tokens (found p) sound.graph link is.there in
      elim (part_cases b.part) [
        | inl t ↦ absurd (t.0 nonterminal)
        | inr s ↦ omega (arith, slice_get_within p.spans.spans label _ s.1, sound.graph.owned)
      ]

  -- a link of the level leads up to the level's place
  pub link_found : {link lower : ℕ} {x : SymbolId} → IsNonterminal rules x → LeadsToBy p.stacks.links lower x p.level.first_link link
      → IsLinkBy (found p) link lower x p.level.at
  link_found {link} {lower} {x} nonterminal (here, edge, there, low, symbol) =
      let ends = (sound.graph.links link edge there).ends in
      let at = sound.level.nodes_here edge.upper (place_with ends.upper_is.state ends.to) ends.upper_is.there (sound.level.links_here link edge there here) in
      let is : IsLinkTo (found p) link lower x p.level.at edge.label = record {
        upper = edge.upper;
        state = ends.upper_is.state;
        there = subst (λ n. slice_get p.stacks.links link ≡ Some (edge_of edge.upper x n edge.label)) low
            (subst (λ y. slice_get p.stacks.links link ≡ Some (edge_of edge.upper y edge.lower edge.label)) symbol there);
        upper_is = subst (λ i. slice_get p.stacks.nodes edge.upper ≡ Some (place_with ends.upper_is.state i)) at ends.upper_is.there;
      } in
      record { label = edge.label; is = is; owned = label_owned nonterminal is }

  -- a node between the noted one and one of the place is at the place too
  pub between_openers : (node other i from : ℕ) (kernel : List Item) → IsNode (found p) node kernel i → slice_get p.openers.items i ≡ Some from → from ≤ other
      → other ≤ node
      → (place : Place) → slice_get p.stacks.nodes other ≡ Some place → place.at ≡ i
  between_openers node other i from kernel n noted above below place e =
      omega (arith, (sound.openers.each i from noted).behind other place e above, sound.graph.rising other node place _ e n.there below)

-- the place of a node has a noted opener
pub openers_within : (rules : List Rule) (tokens : List SymbolId) (p : Parser) → IsSoundParser rules tokens p → (node i : ℕ) (kernel : List Item)
    → IsNode (found p) node kernel i → i < length p.openers.items
openers_within rules tokens p sound node i kernel n =
    omega (arith, sound.openers.size, highest (found p) p.level.at p.level.first_node p.level.first_link sound.level node _ n.there)

-- no link leads down to another node but those of before
pub others_unlinked : (links : List Edge) (edge : Edge) (first_link lower other : ℕ) (x : SymbolId) → edge.lower ≡ lower → other ≢ lower
    → ((link : ℕ) → LeadsToBy links other x first_link link → ⊥) → (link : ℕ) → LeadsToBy (links ++ edge ∷ []) other x first_link link → ⊥
others_unlinked links edge first_link lower other x low differs none link (here, is, there, below, symbol) = elim (old_or_last links edge link is there) [
  | inl before ↦ none link (here, is, before, below, symbol)
  | inr last ↦ differs (sym below ∙ ap (λ (q : Edge). q.lower) last.1 ∙ low)
]

pub linkable_grows : (rules : List Rule) (tokens : List SymbolId) (f g : Findings) → Grows f g → {lower at : ℕ} {x : SymbolId}
    → IsLinkable rules tokens f lower x at
    → IsLinkable rules tokens g lower x at
linkable_grows rules tokens f g grows is = record {
  kernel = is.kernel;
  from = is.from;
  node = node_grows f g grows is.node;
  derives = is.derives;
  moves = is.moves;
}

-- the state of a node has a number
pub state_within : (rules : List Rule) (tokens : List SymbolId) (f : Findings) → IsSoundGraph rules tokens f → (node : ℕ) (place : Place)
    → slice_get f.nodes node ≡ Some place → place.state < length f.kernels
state_within rules tokens f sound node place e = let (kernel, is, reached) = sound.nodes node place e in slice_get_within f.kernels place.state kernel is

-- ---- facts of one parser hold of the next, in the grammar of a graph that was asked

module _ (tokens : List SymbolId) (G H : Grammar) (same : H ≡ G) (p q : Parser) (grows : Grows (found p) (found q)) (level : q.level ≡ p.level) where
  pub linkable_on : {lower : ℕ} {x : SymbolId} → IsLinkable G.rules tokens (found p) lower x p.level.at → IsLinkable H.rules tokens (found q) lower x q.level.at
  linkable_on {lower} {x} is =
      let there = linkable_grows G.rules tokens (found p) (found q) grows is in
      subst (λ (gr : Grammar). IsLinkable gr.rules tokens (found q) lower x q.level.at) (sym same)
      (subst (λ (l : Level). IsLinkable G.rules tokens (found q) lower x l.at) (sym level) there)

  pub first_on : {lower : ℕ} {x : SymbolId} → IsSoundParser G.rules tokens p → lower < length p.stacks.nodes → IsFirstMover G.rules (found p) lower x
      → IsFirstMover H.rules (found q) lower x
  first_on {lower} {x} sound below first =
      subst (λ (gr : Grammar). IsFirstMover gr.rules (found q) lower x) (sym same) (first_stays G.rules tokens (found p)
      (found q) sound.graph grows below first)

  pub nonterminal_on : {x : SymbolId} → IsNonterminal G.rules x → IsNonterminal H.rules x
  nonterminal_on {x} is = subst (λ (gr : Grammar). IsNonterminal gr.rules x) (sym same) is

pub unlinked_on : (p q : Parser) (lower : ℕ) (x : SymbolId) → q.stacks.links ≡ p.stacks.links → q.level ≡ p.level
    → IsUnlinked (found p) p.level.first_link lower x → IsUnlinked (found q) q.level.first_link lower x
unlinked_on p q lower x links level none = λ link (here, edge, there, low, symbol). none link
    (subst (λ (l : Level). l.first_link ≤ link) level here, edge, subst (λ ls. slice_get ls link ≡ Some edge) links there, low, symbol)

-- the link of the first node is linkable as the node itself is
pub linkable_first : (rules : List Rule) (tokens : List SymbolId) (f : Findings) {lower at first : ℕ} {x : SymbolId} (is : IsFirstOf rules f lower x first)
    → IsLinkable rules tokens f lower x at → IsLinkable rules tokens f first x at
linkable_first rules tokens f {at = at} {x = x} is own = record {
  kernel = is.kernel;
  from = is.from;
  node = is.first_is;
  derives = subst (λ i. Derives rules tokens x i at) (one_kernel own.node is.node_is).1 own.derives;
  moves = is.moves;
}

-- the label of the first node's link serves the other nodes of its place
pub label_of_first : (rules : List Rule) (tokens : List SymbolId) (p : Parser) → IsSoundParser rules tokens p
    → {link lower at label from : ℕ} {x : SymbolId} {own : List Item}
    → IsLinkTo (found p) link lower x at label → IsNode (found p) lower own from → IsPartAt rules tokens p.spans.spans x from label at
label_of_first rules tokens p sound {link} {lower} {at} {label} {from} {x} is node =
    let b = between rules tokens (found p) sound.graph link is.there in
    let begins = (one_kernel b.lower_is node).1 in
    let ends : b.to ≡ at = ap (λ (place : Place). place.at) (one_at p.stacks.nodes is.upper _ _ b.upper_is.there is.upper_is) in
    subst (λ j. IsPartAt rules tokens p.spans.spans x from label j) ends (subst (λ i. IsPartAt rules tokens p.spans.spans x i label b.to) begins b.part)
