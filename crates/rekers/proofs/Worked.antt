-- What is worked stays so as more is found, and one node or link more is worked.
use Rattle.std.proofs.Common.{◌≡◌, ℕ, suc, ◌<◌, ◌≤◌, ◌⊎◌, inl, inr, List, [], ◌∷◌, length, refl, subst, arith, Contains}
use Rattle.std.proofs.lemmas.Bool.{cases_lt}
use Rattle.std.specs.List.{AllByRecursion}
use Rattle.forest.specs.declared.symbols.SymbolId.{SymbolId}
use Rattle.forest.specs.declared.rules.Rule.{Rule}
use Rattle.forest.proofs.Ascending.{contains_here, contains_there, contains_cases}
use Rattle.edit_log.proofs.PlainLists.{each_contained}
use Rattle.item_sets.specs.declared.item.Item.{Item}
use Rattle.item_sets.proofs.Numbering.{IsNumbered}
use Rattle.packed_spans.specs.Packed.{PackedSplit}
use Rattle.parser_states.specs.declared.reduction.Reduction.{Reduction}
use Rattle.rekers.specs.Found.{Findings, IsNode, Grows, IsTrail, here, over}
use Rattle.rekers.specs.Reductions.{IsReducible, IsReduced, IsFoundAlong, IsBelow, IsWorked}
use Rattle.rekers.specs.Sound.{IsSoundGraph}
use Rattle.rekers.specs.Steps.{IsThrough}
use Rattle.rekers.proofs.Growth.{trail_back}
use Rattle.rekers.proofs.Trails.{between, one_told}
use Rattle.rekers.proofs.Walks.{partial_back, partial_left, reduced_on, told_back}

-- ---- below

-- each link of a trail below is below
pub below_each : (links nodes : ℕ) (trail : List ℕ) (top : ℕ) → IsBelow links nodes trail top → (link : ℕ) → Contains trail link → link < links
below_each links nodes [] top is link (k, l, e) = absurd (omega arith)
below_each links nodes (first ∷ trail) top is link c = each_contained (λ other. other < links) (first ∷ trail) link is c

pub all_below : (links : ℕ) (trail : List ℕ) → ((link : ℕ) → Contains trail link → link < links) → AllByRecursion (λ other. other < links) trail
all_below links [] each = tt
all_below links (first ∷ trail) each =
    (each first (contains_here first trail), all_below links trail (λ link c. each link (contains_there first trail link c)))

-- a trail of some links below is below
pub below_links : (links nodes : ℕ) (trail : List ℕ) (top : ℕ) (some : ℕ) → Contains trail some → ((link : ℕ) → Contains trail link → link < links)
    → IsBelow links nodes trail top
below_links links nodes [] top some (k, l, e) each = absurd (omega arith)
below_links links nodes (first ∷ trail) top some c each = all_below links (first ∷ trail) each

-- one more link: it is below already, or goes through the new one
pub below_cases : (links nodes : ℕ) (trail : List ℕ) (top : ℕ) → IsBelow (suc links) nodes trail top → IsBelow links nodes trail top ⊎ IsThrough links trail
below_cases links nodes [] top is = inl is
below_cases links nodes (first ∷ trail) top is = elim (cases (first ∷ trail) each) [
  | inl all ↦ inl (all_below links (first ∷ trail) all)
  | inr has ↦ inr (record { has = has; none_behind = λ link c. omega (arith, each link c) })
]
  where
    each : (link : ℕ) → Contains (first ∷ trail) link → link < suc links
    each link c = each_contained (λ other. other < suc links) (first ∷ trail) link is c

    cases : (trail : List ℕ) → ((link : ℕ) → Contains trail link → link < suc links)
        → ((link : ℕ) → Contains trail link → link < links) ⊎ Contains trail links
    cases [] below = inl (λ link (k, l, e). absurd (omega arith))
    cases (one ∷ rest) below = elim (cases rest (λ link c. below link (contains_there one rest link c))) [
      | inr has ↦ inr (contains_there one rest links has)
      | inl all ↦ elim (cases_lt one links) [
        | inl less ↦ inl (λ link c. elim (contains_cases one rest link c) [
          | inl same ↦ subst (λ n. n < links) same less
          | inr in_rest ↦ all link in_rest
        ])
        | inr not ↦
            let same : one ≡ links = omega (arith, not, below one (contains_here one rest)) in
            inr (subst (λ n. Contains (one ∷ rest) n) same (contains_here one rest))
      ]
    ]

pub below_more : (links nodes : ℕ) (trail : List ℕ) (top : ℕ) → IsBelow links nodes trail top → IsBelow (suc links) nodes trail top
below_more links nodes [] top is = is
below_more links nodes (first ∷ trail) top is =
    all_below (suc links) (first ∷ trail) (λ link c. omega (arith, each_contained (λ other. other < links) (first ∷ trail) link is c))

pub below_through : (links nodes : ℕ) (trail : List ℕ) (top : ℕ) → IsThrough links trail → IsBelow (suc links) nodes trail top
below_through links nodes trail top through = below_links (suc links) nodes trail top links through.has (λ link c. omega (arith, through.none_behind link c))

-- one more node: below already, or the node itself
pub below_node_cases : (links node : ℕ) (trail : List ℕ) (top : ℕ) → IsBelow links (suc node) trail top
    → IsBelow links node trail top ⊎ ((trail ≡ []) × (top ≡ node))
below_node_cases links node [] top is = elim (cases_lt top node) [ inl less ↦ inl less | inr not ↦ inr (refl, omega (arith, is, not)) ]
below_node_cases links node (first ∷ trail) top is = inl is

pub below_node_more : (links node : ℕ) (trail : List ℕ) (top : ℕ) → IsBelow links node trail top → IsBelow links (suc node) trail top
below_node_more links node [] top is = omega (arith, is)
below_node_more links node (first ∷ trail) top is = is

-- ---- tops

-- the top of a trail of links is a node
pub top_node : (rules : List Rule) (tokens : List SymbolId) (f : Findings) → IsSoundGraph rules tokens f → {node top : ℕ} {trail labels : List ℕ}
    {xs : List SymbolId} → IsTrail f.links node trail xs labels top → (some : ℕ) → Contains trail some → (w : List Item) × (i : ℕ) × IsNode f top w i
top_node rules tokens f graph here some (k, l, e) = absurd (omega arith)
top_node rules tokens f graph (over {link = link} {trail = []} edge here) some c =
    let b = between rules tokens f graph link edge in
    (b.above, b.to, b.upper_is)
top_node rules tokens f graph (over {trail = next ∷ rest} edge on) some c = top_node rules tokens f graph on next (contains_here next rest)

module _ (rules : List Rule) (tokens : List SymbolId) (numbers : IsNumbered rules) (f g : Findings) (graph : IsSoundGraph rules tokens f)
    (graph' : IsSoundGraph rules tokens g) (grows : Grows f g) where
  -- a reduction along old links, of which there are some, was there before
  pub reducible_back : {reduction : Reduction} {lower : ℕ} {trail labels : List ℕ} {top at : ℕ} → IsReducible rules g reduction lower trail labels top at
      → (some : ℕ) → Contains trail some → ((link : ℕ) → Contains trail link → link < length f.links)
      → IsReducible rules f reduction lower trail labels top at
  reducible_back p some c below =
      let (w, i, n) = top_node rules tokens f graph (trail_back grows.links p.along below) some c in
      partial_back rules tokens f g graph grows p below n

  -- what was made below stays made
  pub made_below : (links nodes : ℕ) → links ≤ length f.links → ((node : ℕ) → node < nodes → (w : List Item) × (i : ℕ) × IsNode f node w i)
      → IsWorked rules f links nodes
      → (reduction : Reduction) (lower : ℕ) (trail labels : List ℕ) (top at : ℕ) → IsReducible rules g reduction lower trail labels top at
      → IsBelow links nodes trail top → IsReduced g reduction lower labels at
  made_below links nodes few are worked reduction lower [] labels top at p below =
      let (w, i, n) = are top below in
      let was = partial_back rules tokens f g graph grows p (λ link (k, l, e). absurd (omega arith)) n in
      reduced_on rules tokens f g graph grows (partial_left p) (worked.all reduction lower [] labels top at was below)
  made_below links nodes few are worked reduction lower (first ∷ trail) labels top at p below =
      let was = reducible_back p first (contains_here first trail)
      (λ link c. omega (arith, few, below_each links nodes (first ∷ trail) top below link c)) in
      reduced_on rules tokens f g graph grows (partial_left p) (worked.all reduction lower (first ∷ trail) labels top at was below)

  -- an old split was found below
  pub old_below : (links nodes : ℕ) → IsWorked rules f links nodes → (split : PackedSplit) (trail : List ℕ) (top : ℕ) → Contains f.splits split
      → IsFoundAlong rules g split trail top → IsBelow links nodes trail top
  old_below links nodes worked split trail top c told =
      worked.only split trail top c (told_back rules tokens f g graph grows numbers graph' split trail top c told)

  -- one link more is worked
  pub worked_link : (link nodes : ℕ) → link ≤ length f.links → ((node : ℕ) → node < nodes → (w : List Item) × (i : ℕ) × IsNode f node w i)
      → IsWorked rules f link nodes
      → ((reduction : Reduction) (lower : ℕ) (trail labels : List ℕ) (top at : ℕ) → IsReducible rules g reduction lower trail labels top at
      → IsThrough link trail → IsReduced g reduction lower labels at)
      → ((split : PackedSplit) → Contains g.splits split
      → Contains f.splits split ⊎ ((trail : List ℕ) × (top : ℕ) × IsFoundAlong rules g split trail top × IsThrough link trail))
      → IsWorked rules g (suc link) nodes
  worked_link link nodes few are worked made only = record {
    all = λ reduction lower trail labels top at p below. elim (below_cases link nodes trail top below) [
      | inl before ↦ made_below link nodes few are worked reduction lower trail labels top at p before
      | inr through ↦ made reduction lower trail labels top at p through
    ];
    only = λ split trail top c told. elim (only split c) [
      | inl old ↦ below_more link nodes trail top (old_below link nodes worked split trail top old told)
      | inr (other, above, is, through) ↦
          let same = (one_told rules tokens g graph' numbers is told).0 in
          below_through link nodes trail top (subst (λ ts. IsThrough link ts) same through)
    ];
  }

  -- the empty rules of one node more are
  pub worked_node : (links node : ℕ) → links ≤ length f.links → ((other : ℕ) → other < node → (w : List Item) × (i : ℕ) × IsNode f other w i)
      → IsWorked rules f links node
      → ((reduction : Reduction) (lower : ℕ) (labels : List ℕ) (at : ℕ) → IsReducible rules g reduction lower [] labels node at
      → IsReduced g reduction lower labels at)
      → ((split : PackedSplit) → Contains g.splits split → Contains f.splits split ⊎ IsFoundAlong rules g split [] node)
      → IsWorked rules g links (suc node)
  worked_node links node few are worked made only = record {
    all = λ reduction lower trail labels top at p below. elim (below_node_cases links node trail top below) [
      | inl before ↦ made_below links node few are worked reduction lower trail labels top at p before
      | inr (none, same) ↦ made reduction lower labels at (subst (λ n. IsReducible rules g reduction lower [] labels n at) same
          (subst (λ ts. IsReducible rules g reduction lower ts labels top at) none p))
    ];
    only = λ split trail top c told. elim (only split c) [
      | inl old ↦ below_node_more links node trail top (old_below links node worked split trail top old told)
      | inr is ↦
          let (same, tops) = one_told rules tokens g graph' numbers is told in
          subst (λ n. IsBelow links (suc node) trail n) tops (subst (λ ts. IsBelow links (suc node) ts node) same (omega arith))
    ];
  }
