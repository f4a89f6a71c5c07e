-- The trails that a walk goes over, the upper link first, are those that reductions are made along, the lowest link first.
use Rattle.std.proofs.Common.{◌≡◌, inl, inr, ℕ, ◌≤◌, List, [], ◌∷◌, ◌++◌, length, reverse, Some, slice_get, Contains}
use Rattle.std.proofs.Common.{refl, sym, ◌∙◌, ap, subst, arith}
use Rattle.std.proofs.lemmas.Bool.{cases_lt}
use Rattle.std.proofs.lemmas.List.{append_assoc, length-reverse, reverse-reverse, reverse-append}
use Rattle.std.proofs.lemmas.List.Elements.{Contains-append_left, Contains-append_right, Contains-append_cases}
use Rattle.forest.specs.declared.symbols.SymbolId.{SymbolId}
use Rattle.forest.specs.declared.rules.Rule.{Rule}
use Rattle.forest.proofs.Ascending.{contains_here, contains_there, contains_cases}
use Rattle.item_sets.proofs.Numbering.{IsNumbered}
use Rattle.item_sets.proofs.Chains.{at_below}
use Rattle.gss.specs.declared.stack_graph.Edge.{Edge}
use Rattle.gss.specs.PlaceGraphs.{place_with, edge_of}
use Rattle.gss.specs.Trails.{LeadsDown, StaysAbove, IsTrailOf, IsTrailBefore}
use Rattle.gss.proofs.TrailOrders.{down_pushed}
use Rattle.gss.proofs.TrailParts.{one_node}
use Rattle.parser_states.specs.declared.reduction.Reduction.{Reduction}
use Rattle.rekers.specs.declared.walk.Walk.{Walk}
use Rattle.rekers.specs.Found.{Findings, IsTrail, here, over}
use Rattle.rekers.specs.Reductions.{IsPartial, IsReducible}
use Rattle.rekers.specs.Sound.{IsSoundGraph, IsLevel}
use Rattle.rekers.specs.Starts.{trails_for}
use Rattle.rekers.specs.Steps.{IsThrough}
use Rattle.rekers.proofs.Growth.{trail_links}
use Rattle.rekers.proofs.Trails.{one_down, trail_rises}
use Rattle.rekers.proofs.Walks.{parted, trail_size, trail_node, partial_size}

-- ---- lists, and the same from their ends on

pub reverse_cons : (x : ℕ) (xs : List ℕ) → reverse (x ∷ xs) ≡ reverse xs ++ x ∷ []
reverse_cons x xs = reverse-append (x ∷ []) xs

pub in_reverse : (xs : List ℕ) (x : ℕ) → Contains xs x → Contains (reverse xs) x
in_reverse [] x c = absurd (omega (arith, c.1))
in_reverse (y ∷ ys) x c = subst (λ zs. Contains zs x) (sym (reverse_cons y ys)) (elim (contains_cases y ys x c) [
  | inl same ↦ Contains-append_right (reverse ys) (y ∷ []) x (subst (λ z. Contains (y ∷ []) z) same (contains_here y []))
  | inr behind ↦ Contains-append_left (reverse ys) (y ∷ []) x (in_reverse ys x behind)
])

pub from_reverse : (xs : List ℕ) (x : ℕ) → Contains (reverse xs) x → Contains xs x
from_reverse xs x c = subst (λ zs. Contains zs x) (reverse-reverse xs) (in_reverse (reverse xs) x c)

-- no trail comes before itself
pub before_self : (trail : List ℕ) → IsTrailBefore trail trail → ⊥
before_self [] before = before
before_self (x ∷ trail) (inl older) = omega (arith, older)
before_self (x ∷ trail) (inr (same, before)) = before_self trail before

-- ---- links

module _ (links : List Edge) (last : ℕ) where
  -- a trail of no links behind the last one leads down from its top
  pub leads_down : {lower top : ℕ} {trail labels : List ℕ} {xs : List SymbolId} → IsTrail links lower trail xs labels top
      → ((link : ℕ) → Contains trail link → link ≤ last) → LeadsDown links last top (reverse trail) lower
  leads_down here within = refl
  leads_down {top = top} (over {lower = lower} {middle = middle} {link = link} {x = x} {label = label} {trail = rest} edge on) within =
      subst (λ ts. LeadsDown links last top ts lower) (sym (reverse_cons link rest))
      (down_pushed links last top (reverse rest) middle link (edge_of middle x lower label)
      (leads_down on (λ l c. within l (contains_there link rest l c))) edge refl (within link (contains_here link rest)))

  -- links that lead down are none behind the last one
  pub down_until : (top : ℕ) (trail : List ℕ) (node : ℕ) → LeadsDown links last top trail node → (link : ℕ) → Contains trail link → link ≤ last
  down_until top [] node down link c = absurd (omega (arith, c.1))
  down_until top (x ∷ trail) node (edge, at, up, le, on) link c = elim (contains_cases x trail link c) [
    | inl same ↦ omega (arith, le, same)
    | inr below ↦ down_until edge.lower trail node on link below
  ]

-- ---- reductions

module _ (rules : List Rule) (tokens : List SymbolId) (f : Findings) (graph : IsSoundGraph rules tokens f) where
  -- by links down from a node the trail of a reduction goes on
  pub goes_on_down : IsNumbered rules → {reduction : Reduction} {top at : ℕ} (last : ℕ) (trail : List ℕ) (node left lower : ℕ) (done labels : List ℕ)
      → IsPartial rules f reduction node left done labels top at → length trail ≡ left → LeadsDown f.links last node trail lower
      → (others : List ℕ) × IsPartial rules f reduction lower 0 (reverse trail ++ done) others top at
  goes_on_down numbers {reduction} {top} {at} last [] node left lower done labels partial size down = (
    labels,
    subst (λ n. IsPartial rules f reduction n 0 done labels top at) down
        (subst (λ n. IsPartial rules f reduction node n done labels top at) (sym size) partial),
  )
  goes_on_down numbers {reduction} {top} {at} last (link ∷ trail) node left lower done labels partial size (edge, there, up, le, on) =
      let one = subst (λ n. IsPartial rules f reduction node n done labels top at) (sym size) partial in
      let leads : slice_get f.links link ≡ Some (edge_of node edge.symbol edge.lower edge.label) =
      subst (λ n. slice_get f.links link ≡ Some (edge_of n edge.symbol edge.lower edge.label)) up there in
      let below = one_down rules tokens f graph numbers one link edge.lower edge.label edge.symbol leads in
      let (others, whole) = goes_on_down numbers last trail edge.lower (length trail) lower (link ∷ done) (edge.label ∷ labels) below refl on in
      let same : reverse trail ++ link ∷ done ≡ reverse (link ∷ trail) ++ done =
      sym (ap (λ ns. ns ++ done) (reverse_cons link trail) ∙ append_assoc (reverse trail) (link ∷ []) done) in
      (others, subst (λ ns. IsPartial rules f reduction lower 0 ns others top at) same whole)

  module _ (level first_node first_link : ℕ) (is_level : IsLevel f level first_node first_link) (walk : Walk) (of_level : first_link ≤ walk.through) where
    -- links of the level lead down from its nodes alone, so until it goes through one the trail stays at the level
    links_above : {lower at : ℕ} {trail labels : List ℕ} → IsReducible rules f walk.reduction lower trail labels walk.top at
        → IsThrough walk.through trail → StaysAbove f.links (trails_for walk first_node) (reverse trail)
    links_above {trail = trail} p through front rest link node e down unmet =
        let low : List ℕ = reverse rest ++ link ∷ [] in
        let is : trail ≡ low ++ reverse front =
        sym (reverse-reverse trail) ∙ ap (λ ns. reverse ns) e ∙ reverse-append front (link ∷ rest) ∙ ap (λ ns. ns ++ reverse front) (reverse_cons link rest) in
        let part = parted low (reverse front) p.along is in
        let in_low : Contains low walk.through = elim (Contains-append_cases low (reverse front) walk.through
        (subst (λ ns. Contains ns walk.through) is through.has)) [ inl it ↦ it | inr high ↦ absurd (unmet (from_reverse front walk.through high)) ] in
        let until : (l : ℕ) → Contains (reverse front) l → l ≤ walk.through =
        λ l c. through.none_behind l (subst (λ ns. Contains ns l) (sym is) (Contains-append_right low (reverse front) l c)) in
        let down' : LeadsDown f.links walk.through walk.top front part.middle =
        subst (λ ns. LeadsDown f.links walk.through walk.top ns part.middle) (reverse-reverse front) (leads_down f.links walk.through part.above until) in
        let same : part.middle ≡ node = one_node f.links walk.through walk.top front part.middle node down' down in
        elim (cases_lt node first_node) [
          | inr not ↦ omega (arith, not)
          | inl before ↦
              let (edge, there) = at_below f.links walk.through (trail_links part.below walk.through in_low) in
              let ends = (graph.links walk.through edge there).ends in
              let upper = place_with ends.upper_is.state ends.to in
              let up : slice_get f.nodes edge.upper ≡ Some upper = ends.upper_is.there in
              let (kernel, i, middle) = trail_node graph part.above p.top_is in
              let rises = trail_rises rules tokens f graph part.below walk.through in_low edge there upper _ up middle.there in
              let low_at = is_level.nodes_before part.middle _ middle.there (omega (arith, before, same)) in
              let high_at = is_level.nodes_here edge.upper upper up (is_level.links_here walk.through edge there of_level) in
              absurd (omega (arith, rises, low_at, high_at))
        ]

    -- the trail of a reduction through the link is one of the walk's
    pub is_of_walk : {lower at : ℕ} {trail labels : List ℕ} → IsReducible rules f walk.reduction lower trail labels walk.top at
        → IsThrough walk.through trail → IsTrailOf f.links (trails_for walk first_node) (reverse trail)
    is_of_walk {lower} {trail = trail} p through = record {
      node = lower;
      down = leads_down f.links walk.through p.along through.none_behind;
      size = length-reverse trail ∙ trail_size p.along ∙ partial_size p;
      passes = in_reverse trail walk.through through.has;
      above = links_above p through;
    }

-- what is said of the trail from its end on
pub through_reverse : (links : List Edge) (walk : Walk) (first_node : ℕ) (trail : List ℕ) → IsTrailOf links (trails_for walk first_node) trail
    → IsThrough walk.through (reverse trail)
through_reverse links walk first_node trail is = record {
  has = in_reverse trail walk.through is.passes;
  none_behind = λ link c. down_until links walk.through walk.top trail is.node is.down link (from_reverse trail link c);
}
