-- The node behind a move: its state is asked for, and then it is placed.
use Rattle.std.proofs.Common.{◌≡◌, ℕ, ◌+◌, ◌≤◌, ◌⊎◌, inl, inr, List, [], ◌∷◌, length, sym, ◌∙◌, ap, subst, arith, Contains, slice_get, Some, length-append}
use Rattle.forest.specs.declared.symbols.SymbolId.{SymbolId}
use Rattle.forest.specs.declared.rules.Rule.{Rule}
use Rattle.item_sets.specs.declared.item.Item.{Item}
use Rattle.item_sets.specs.Expansions.{IsMoveOf}
use Rattle.item_sets.proofs.Numbering.{one_right}
use Rattle.gss.specs.declared.stack_graph.Place.{Place}
use Rattle.gss.specs.PlaceGraphs.{PlaceGraph, place_with}
use Rattle.live_graph.specs.Asking.{Joins}
use Rattle.forest.specs.Numbers.{KeepsNumbers}
use Rattle.rekers.specs.declared.parser.Parser.{Parser}
use Rattle.rekers.specs.States.{IsStateAt}
use Rattle.forest.specs.Numbers.{KeepsNumbers}
use Rattle.rekers.specs.Found.{Findings, found, IsNode, Grows}
use Rattle.rekers.specs.Sound.{IsSoundParser, ArePlaced}
use Rattle.rekers.specs.Steps.{AddsNode, IsLinkable, IsStateBehind, IsUpper}
use Rattle.rekers.proofs.Reached.{next_state}
use Rattle.rekers.proofs.Growth.{one_at, one_kernel, keeps_same, keeps_append, node_grows}
use Rattle.rekers.proofs.Trails.{node_state}
use Rattle.rekers.proofs.NewNodes.{old_or_last}

-- of new states all but the one behind the move were there before
pub others_old : (old new : List (List Item)) (upper : List Item) (number : ℕ) → Joins old upper new → slice_get new number ≡ Some upper
    → ((a b : ℕ) (kernel : List Item) → slice_get new a ≡ Some kernel → slice_get new b ≡ Some kernel → a ≡ b)
    → (state : ℕ) (kernel : List Item) → slice_get new state ≡ Some kernel → (state ≡ number) ⊎ (slice_get old state ≡ Some kernel)
others_old old new upper number (inl (has, same)) named one state kernel e = inr (subst (λ ks. slice_get ks state ≡ Some kernel) same e)
others_old old new upper number (inr (none, more)) named one state kernel e =
    elim (old_or_last old upper state kernel (subst (λ ks. slice_get ks state ≡ Some kernel) more e)) [
      | inl before ↦ inr before
      | inr last ↦ inl (one state number upper (subst (λ k. slice_get new state ≡ Some k) last.1 e) named)
    ]

-- the state behind a move of a node that is reached is reached
pub behind_reached : (rules : List Rule) (tokens : List SymbolId) (p : Parser) → IsSoundParser rules tokens p
    → (lower : ℕ) (x : SymbolId) (at : ℕ) (f : Findings) (behind : ℕ)
    (linkable : IsLinkable rules tokens (found p) lower x at) (is : IsStateBehind rules f lower x behind) → IsNode f lower linkable.kernel linkable.from
    → (kernel : List Item) → slice_get f.kernels behind ≡ Some kernel → IsStateAt rules tokens kernel at
behind_reached rules tokens p sound lower x at f behind linkable is node kernel e =
    let own : is.kernel ≡ linkable.kernel = (one_kernel is.node node).0 in
    let move = subst (λ k. IsMoveOf rules k x is.upper) own is.move in
    let reached = next_state rules (one_right rules sound.numbered) tokens (node_state rules tokens (found p) sound.graph linkable.node) linkable.derives move
    in
    subst (λ k. IsStateAt rules tokens k at) (one_at f.kernels behind is.upper kernel is.is_kernel e) reached

-- the nodes have one node more, or stay
pub adds_keeps : (old new : List Place) (state at : ℕ) → AddsNode old new state at → KeepsNumbers old new × (length new ≤ length old + 1)
adds_keeps old new state at (inl same) = (subst (λ ns. KeepsNumbers old ns) (sym same) (keeps_same old), omega (arith, ap length same))
adds_keeps old new state at (inr (none, more)) = (
  subst (λ ns. KeepsNumbers old ns) (sym more) (keeps_append old (place_with state at ∷ [])),
  omega (arith, ap length more, length-append old (place_with state at ∷ [])),
)

-- q is p with more states, and r is q with the node
module _ (p q r : Parser) (first : q ≡ record p { states = q.states }) (then : r ≡ record q { stacks = r.stacks; openers = r.openers })
    (keeps : KeepsNumbers p.states.kernels q.states.kernels) (state at : ℕ) (adds : AddsNode q.stacks.nodes r.stacks.nodes state at)
    (links : r.stacks.links ≡ q.stacks.links) where
  states_same : r.states ≡ q.states
  states_same = ap (λ (x : Parser). x.states) then

  pub nodes_from : q.stacks ≡ p.stacks
  nodes_from = ap (λ (x : Parser). x.stacks) first

  spans_same : r.spans ≡ p.spans
  spans_same = ap (λ (x : Parser). x.spans) then ∙ ap (λ (x : Parser). x.spans) first

  owners_same : r.owners ≡ p.owners
  owners_same = ap (λ (x : Parser). x.owners) then ∙ ap (λ (x : Parser). x.owners) first

  pub level_same : r.level ≡ p.level
  level_same = ap (λ (x : Parser). x.level) then ∙ ap (λ (x : Parser). x.level) first

  pub links_same : r.stacks.links ≡ p.stacks.links
  links_same = links ∙ ap (λ (g : PlaceGraph). g.links) nodes_from

  pub upper_grows : Grows (found p) (found r)
  upper_grows = record {
    kernels = subst (λ ss. KeepsNumbers p.states.kernels ss.kernels) (sym states_same) keeps;
    nodes = subst (λ (g : PlaceGraph). KeepsNumbers g.nodes r.stacks.nodes) nodes_from (adds_keeps q.stacks.nodes r.stacks.nodes state at adds).0;
    links = subst (λ ls. KeepsNumbers p.stacks.links ls) (sym links_same) (keeps_same p.stacks.links);
    spans = subst (λ ss. KeepsNumbers p.spans.spans ss.spans) (sym spans_same) (keeps_same p.spans.spans);
    splits = λ split c. subst (λ ss. Contains ss.splits split) (sym spans_same) c;
    owners = subst (λ os. KeepsNumbers p.owners.items os.items) (sym owners_same) (keeps_same p.owners.items);
  }

  -- the new state has its node
  pub upper_placed : (node : ℕ) → slice_get r.stacks.nodes node ≡ Some (place_with state at)
      → ((number : ℕ) (kernel : List Item) → slice_get q.states.kernels number ≡ Some kernel → (number ≡ state)
      ⊎ (slice_get p.states.kernels number ≡ Some kernel))
      → ArePlaced (found p) → ArePlaced (found r)
  upper_placed node there others placed number kernel e =
      let was = subst (λ ss. slice_get ss.kernels number ≡ Some kernel) states_same e in
      elim (others number kernel was) [
        | inl new ↦ (node, at, record { state = state; there = there; is_kernel = subst (λ n. slice_get r.states.kernels n ≡ Some kernel) new e })
        | inr old ↦ let (other, i, is) = placed number kernel old in (other, i, node_grows (found p) (found r) upper_grows is)
      ]

  -- the node is that behind the move
  pub upper_is : (rules : List Rule) (lower : ℕ) (x : SymbolId) (node : ℕ) → slice_get r.stacks.nodes node ≡ Some (place_with state at)
      → IsStateBehind rules (found q) lower x state → IsUpper rules (found r) at lower x node
  upper_is rules lower x node there is = record {
    state = state;
    there = there;
    behind = record {
      kernel = is.kernel;
      from = is.from;
      node = record {
        state = is.node.state;
        there = (adds_keeps q.stacks.nodes r.stacks.nodes state at adds).0 lower _ is.node.there;
        is_kernel = subst (λ ss. slice_get ss.kernels is.node.state ≡ Some is.kernel) (sym states_same) is.node.is_kernel;
      };
      upper = is.upper;
      is_kernel = subst (λ ss. slice_get ss.kernels state ≡ Some is.upper) (sym states_same) is.is_kernel;
      move = is.move;
    };
  }
