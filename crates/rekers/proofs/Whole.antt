-- At the end of a text the nodes and the links that were found are all that the rules and the text have.
use Rattle.std.proofs.Common.{◌≡◌, ℕ, suc, ◌+◌, ◌<◌, ◌≤◌, List, [], ◌∷◌, length, refl, subst, arith, Contains, slice_get, Some}
use Rattle.forest.specs.declared.symbols.SymbolId.{SymbolId}
use Rattle.forest.specs.declared.symbols.TheConstants.{START}
use Rattle.forest.specs.declared.rules.Rule.{Rule}
use Rattle.forest.specs.Derivation.{Derives}
use Rattle.forest.proofs.Ascending.{contains_here}
use Rattle.forest.proofs.Derivations.{Along-within, Derives-within}
use Rattle.edit_log.proofs.PlainLists.{all_contained}
use Rattle.item_sets.specs.declared.item.Item.{Item}
use Rattle.item_sets.specs.Prefixes.{start_kernel, rule_zero, item_at, whole}
use Rattle.item_sets.specs.Expansions.{InClosure, own, past, HasMove}
use Rattle.item_sets.proofs.Numbering.{IsNumbered, one_right}
use Rattle.gss.specs.PlaceGraphs.{place_with, edge_of}
use Rattle.packed_spans.specs.declared.span.TheConstants.{TOKEN_PART}
use Rattle.packed_spans.specs.Complete.{IsPartAt, StandsAlong, no_parts, next_part}
use Rattle.parser_states.specs.Reductions.{reduction_by}
use Rattle.rekers.specs.States.{IsStateAt}
use Rattle.rekers.specs.Size.{StateLink, IsLink}
use Rattle.rekers.specs.Found.{Findings, IsNode, IsTrail, here as trail_ends, over as trail_goes_on}
use Rattle.rekers.specs.Reductions.{IsReducible, IsReduced, IsLinkTo, IsBelow, IsWorked}
use Rattle.rekers.specs.Sound.{IsSoundGraph, state_link_of}
use Rattle.rekers.specs.Steps.{AreShifted}
use Rattle.rekers.proofs.Growth.{one_kernel, node_below, trail_links}
use Rattle.rekers.proofs.Saturated.{IsPath, here, over, IsSaturated, added_by, nodes_in, links_in, linked}
use Rattle.rekers.proofs.Trails.{between_from}

-- some node is of the state at the place
abbrev pub IsPlaced : Findings → List Item → ℕ → Type 0
IsPlaced f s i = (node : ℕ) × IsNode f node s i

-- some link leads by the symbol from the one state at its place up to the other
pub record IsLinked (f : Findings) (s : List Item) (i : ℕ) (x : SymbolId) (v : List Item) (j : ℕ) : Type 0 where
  pub link : ℕ
  pub lower : ℕ
  pub lower_is : IsNode f lower s i
  pub upper : ℕ
  pub upper_is : IsNode f upper v j
  pub label : ℕ
  pub there : slice_get f.links link ≡ Some (edge_of upper x lower label)

-- what was found is sound, and all reductions and shifts are made
pub record IsDone (rules : List Rule) (tokens : List SymbolId) (f : Findings) : Type 0 where
  pub numbered : IsNumbered rules
  pub graph : IsSoundGraph rules tokens f
  pub worked : IsWorked rules f (length f.links) (length f.nodes)
  pub shifted : AreShifted rules tokens f (length tokens)

-- a trail with labels that stand along the cuts
pub record IsTrailAlong (rules : List Rule) (tokens : List SymbolId) (f : Findings) (node : ℕ) (xs : List SymbolId) (i : ℕ) (cuts : List ℕ) (top j : ℕ) : Type 0
  where
    pub trail : List ℕ
    pub labels : List ℕ
    pub along : IsTrail f.links node trail xs labels top
    pub stands : StandsAlong rules tokens f.spans xs i labels cuts j

is_below : (links nodes : ℕ) (trail : List ℕ) (top : ℕ) → top < nodes → ((link : ℕ) → Contains trail link → link < links) → IsBelow links nodes trail top
is_below links nodes [] top l g = l
is_below links nodes (link ∷ trail) top l g = all_contained (λ other. other < links) (link ∷ trail) g

module _ (rules : List Rule) (tokens : List SymbolId) (f : Findings) (graph : IsSoundGraph rules tokens f) where
  -- a state has one node at a place
  pub same_node : {a b : ℕ} {s : List Item} {i : ℕ} → IsNode f a s i → IsNode f b s i → a ≡ b
  same_node {a} {b} {s} {i} n m =
      let state : n.state ≡ m.state = graph.one_state n.state m.state s n.is_kernel m.is_kernel in
      graph.one_node a b (place_with m.state i) (subst (λ k. slice_get f.nodes a ≡ Some (place_with k i)) state n.there) m.there

  pub sound_link : {s : List Item} {i : ℕ} {x : SymbolId} {v : List Item} {j : ℕ} → IsLinked f s i x v j → IsLink rules tokens (state_link_of s i x v j)
  sound_link {s} {i} {x} {v} {j} l =
      let b = between_from rules tokens f graph l.link l.there l.lower_is in
      let (kernel, place) = one_kernel b.upper_is l.upper_is in
      subst (λ k. IsLink rules tokens (state_link_of s i x v k)) place (subst (λ t. IsLink rules tokens (state_link_of s i x t b.to)) kernel b.link)

  pub linked_part : {s : List Item} {i : ℕ} {x : SymbolId} {v : List Item} {j : ℕ} (l : IsLinked f s i x v j) → IsPartAt rules tokens f.spans x i l.label j
  linked_part {i = i} {x = x} l =
      let b = between_from rules tokens f graph l.link l.there l.lower_is in
      subst (λ k. IsPartAt rules tokens f.spans x i l.label k) (one_kernel b.upper_is l.upper_is).1 b.part

  -- a link up from a node leads to a state
  pub links_up : {link lower : ℕ} {x : SymbolId} {at label : ℕ} {s : List Item} {i : ℕ} → IsLinkTo f link lower x at label → IsNode f lower s i
      → (v : List Item) × IsLinked f s i x v at
  links_up {link} {lower} {x} {at} {label} l n =
      let (kernel, is, reached) = graph.nodes l.upper (place_with l.state at) l.upper_is in (
        kernel,
        record {
          link = link;
          lower = lower;
          lower_is = n;
          upper = l.upper;
          upper_is = record { state = l.state; there = l.upper_is; is_kernel = is };
          label = label;
          there = l.there;
        },
      )

  -- links between states at places make a trail between their nodes
  pub trail_of : {u v : List Item} {i j : ℕ} {xs : List SymbolId} {cuts : List ℕ} → IsPath (IsLinked f) u i xs cuts v j → {node top : ℕ} → IsNode f node u i
      → IsNode f top v j → IsTrailAlong rules tokens f node xs i cuts top j
  trail_of here {node} {top} n m = record {
    trail = [];
    labels = [];
    along = subst (λ k. IsTrail f.links node [] [] [] k) (same_node n m) trail_ends;
    stands = no_parts;
  }
  trail_of (over {x = x} link path) {node} {top} n m =
      let rest = trail_of path link.upper_is m in
      let edge : slice_get f.links link.link ≡ Some (edge_of link.upper x node link.label) =
      subst (λ k. slice_get f.links link.link ≡ Some (edge_of link.upper x k link.label)) (same_node link.lower_is n) link.there in
      record {
        trail = link.link ∷ rest.trail;
        labels = link.label ∷ rest.labels;
        along = trail_goes_on edge rest.along;
        stands = next_part (linked_part link) rest.stands;
      }

module _ (rules : List Rule) (tokens : List SymbolId) (f : Findings) (end : IsDone rules tokens f) where
  -- a finished rule along a trail down from a node is reduced
  pub reduced : {r : Rule} {u v : List Item} {i j node top : ℕ} {cuts : List ℕ} → Contains rules r
      → InClosure rules (Contains v) (item_at r.number (length r.right)) → IsNode f node u i → IsNode f top v j → HasMove rules (Contains u) r.left
      → (t : IsTrailAlong rules tokens f node r.right i cuts top j) → IsReduced f (reduction_by r) node t.labels j
  reduced {r} {u} {v} {i} {j} {node} {top} live finished n m move t =
      let reducible : IsReducible rules f (reduction_by r) node t.trail t.labels top j = record {
        rule = r;
        live = live;
        made = refl;
        upper = v;
        top_is = m;
        finished = finished;
        within = omega arith;
        along = t.along;
        kernel = u;
        from = i;
        node_is = n;
        dotted = added_by move.1 live;
      } in
      end.worked.all (reduction_by r) node t.trail t.labels top j reducible
      (is_below (length f.links) (length f.nodes) t.trail top (node_below m) (trail_links t.along))

  pub saturated : IsSaturated rules tokens (length tokens) (IsPlaced f) (IsLinked f)
  saturated = record {
    begun = (0, end.graph.begun);
    ends = λ s i x v j l. (l.upper, l.upper_is);
    moves = λ s i x v j l. (sound_link rules tokens f end.graph l).move;
    shifts = λ s i x n e l m.
        let (link, there) = end.shifted n.0 i s x n.1 e (omega (arith, l)) m in
        let next : i + 1 ≡ suc i = omega arith in
        links_up rules tokens f end.graph (subst (λ k. IsLinkTo f link n.0 x k TOKEN_PART) next there) n.1;
    reduces = λ v j r u i cuts top l live finished path node move.
        let t = trail_of rules tokens f end.graph path node.1 top.1 in
        links_up rules tokens f end.graph (reduced live finished node.1 top.1 move t).link_is node.1;
  }

  -- each state that is reached has a node
  pub all_placed : {s : List Item} {i : ℕ} → IsStateAt rules tokens s i → IsPlaced f s i
  all_placed state = nodes_in rules tokens (length tokens) (IsPlaced f) (IsLinked f) saturated (one_right rules end.numbered) state
      (Along-within state.derives (omega arith))

  -- each link of the definition was found
  pub all_linked : (link : StateLink) → IsLink rules tokens link → IsLinked f link.lower link.from link.symbol link.upper link.to
  all_linked link is = links_in rules tokens (length tokens) (IsPlaced f) (IsLinked f) saturated (one_right rules end.numbered) link is
      (Derives-within is.derives (Along-within is.reached.derives (omega arith)))

  -- from a node that moves on a symbol a link leads over what it derives
  pub links_over : {x : SymbolId} {s : List Item} {i j : ℕ} → Derives rules tokens x i j → IsPlaced f s i → j ≤ length tokens → HasMove rules (Contains s) x
      → (v : List Item) × IsLinked f s i x v j
  links_over {x} {s} d n l m = linked rules tokens (length tokens) (IsPlaced f) (IsLinked f) saturated d s n l m

-- the start moves on START
pub start_moves : (rules : List Rule) → HasMove rules (Contains start_kernel) START
start_moves rules = (item_at rule_zero 1, past (own (contains_here _ [])) (record { right = START ∷ []; has = whole; at_dot = refl }))
