-- Paths are what trails lead over.
use Rattle.std.proofs.Common.{◌≡◌, ◌⊎◌, inl, inr, ℕ, zero, suc, ◌+◌, ◌<◌, ◌≤◌, List, [], ◌∷◌, ◌++◌, length, map, Option, None, Some, Bool, true, false, IsTrue}
use Rattle.std.proofs.Common.{◌||◌, take, IfSome, slice_get, get_or, Contains, refl, sym, ap, ◌∙◌, subst, arith, add-one}
use Rattle.std.specs.Prelude.{nat_eq}
use Rattle.std.specs.Bool.{Decides}
use Rattle.std.specs.Cmp.{unsigned_Decides}
use Rattle.std.specs.Cmp.Lexicographic.{pointwise}
use Rattle.std.specs.List.{list_any}
use Rattle.std.proofs.lemmas.Bool.{or_left, or_right}
use Rattle.std.proofs.lemmas.List.{take_more, map-append}
use Rattle.std.proofs.lemmas.Slice.Eq.{slice_eq-Decides}
use Rattle.std.proofs.lemmas.List.Elements.{Contains-append_left, Contains-append_right, Contains-push_cases}
use Rattle.std.proofs.lemmas.Option.{same_Some, slice_get_within, get_or_from_slice_get}
use Rattle.forest.specs.Distinct.{IsDistinct, AreAll}
use Rattle.forest.specs.declared.symbols.TheConstants.{START}
use Rattle.forest.proofs.Ascending.{contains_here, contains_there, contains_cases}
use Rattle.item_sets.proofs.Chains.{at_below}
use Rattle.item_sets.proofs.DistinctLists.{distinct_append}
use Rattle.gss.specs.declared.stack_graph.Edge.{Edge}
use Rattle.gss.specs.declared.stacks.NodeId.{NodeId}
use Rattle.gss.specs.declared.stacks.LinkId.{LinkId}
use Rattle.gss.specs.declared.paths.Path.{Path}
use Rattle.gss.specs.declared.trails.Walk.{Walk}
use Rattle.gss.specs.Chains.{none}
use Rattle.gss.specs.PlaceGraphs.{edge_of}
use Rattle.gss.specs.KernelGraphs.{Link}
use Rattle.gss.specs.Paths.{node_id, IsPathDown, HasStep, GoesThrough, IsPathOf}
use Rattle.gss.specs.Trails.{LeadsDown, IsTrailOf, IsTrailBefore, IsOn, Standing, IsNextTrail, IsAtEnd}
use Rattle.gss.specs.Views.{link_in, links_in, AddsNew, named, walk_of, lower_of, path_along}
use Rattle.gss.proofs.Columns.{to_column, from_column}
use Rattle.gss.proofs.TrailOrders.{down_within, from_before}
use Rattle.gss.proofs.TrailSteps.{comes, calls_left, fewer_calls}

-- ---- one trail and its path

lower_is : (links : List Edge) (link : ℕ) (edge : Edge) → slice_get links link ≡ Some edge → lower_of links link ≡ node_id edge.lower
lower_is links link edge at = ap (λ (e : Edge). node_id e.lower) (get_or_from_slice_get links link edge (edge_of 0 START 0 0) at)

module _ (links : List Edge) (last : ℕ) where
  -- the nodes along a trail are a path
  pub down_path : (node : NodeId) (trail : List ℕ) (end : ℕ) → LeadsDown links last node.0 trail end
      → IsPathDown (links_in links) node (length trail) (node ∷ map (lower_of links) trail)
  down_path node [] end down = refl
  down_path node (link ∷ trail) end (edge, at, up, le, on) =
      let below = sym (lower_is links link edge at) in (
        lower_of links link,
        lower_of links link ∷ map (lower_of links) trail,
        refl,
        (link, link_in edge, to_column link_in links link edge at, up, ap (λ (n : NodeId). n.0) below),
        down_path (lower_of links link) trail end (subst (λ (n : NodeId). LeadsDown links last n.0 trail end) below on),
      )

  step_at : (node : NodeId) (trail : List ℕ) (end : ℕ) (through : ℕ) (edge : Edge) → LeadsDown links last node.0 trail end
      → Contains trail through → slice_get links through ≡ Some edge → (k : ℕ) × (slice_get (node ∷ map (lower_of links) trail) k ≡ Some (node_id edge.upper))
      × (slice_get (map (lower_of links) trail) k ≡ Some (node_id edge.lower))
  step_at node [] end through edge down has at = absurd (omega (arith, has.1))
  step_at node (link ∷ trail) end through edge (own, at', up, le, on) has at = elim (contains_cases link trail through has) [
    | inl is ↦
        let there : slice_get links link ≡ Some edge = subst (λ l. slice_get links l ≡ Some edge) (sym is) at in
        let same : own ≡ edge = same_Some own edge (sym at' ∙ there) in
        (0, ap (λ n. Some (node_id n)) (sym up ∙ ap (λ (e : Edge). e.upper) same), ap Some (lower_is links link edge there))
    | inr below ↦
        let on' = subst (λ (n : NodeId). LeadsDown links last n.0 trail end) (sym (lower_is links link own at')) on in
        let (k, upper, lower) = step_at (lower_of links link) trail end through edge on' below at in
        (suc k, upper, lower)
  ]

  -- the path goes through each link of the trail
  pub passes_step : (node : NodeId) (trail : List ℕ) (end : ℕ) (through : ℕ) (edge : Edge) → LeadsDown links last node.0 trail end
      → Contains trail through → slice_get links through ≡ Some edge → HasStep (node ∷ map (lower_of links) trail) edge.upper edge.lower
  passes_step node trail end through edge down has at =
      let (k, upper, lower) = step_at node trail end through edge down has at in
      (k, upper, subst (λ n. slice_get (node ∷ map (lower_of links) trail) n ≡ Some (node_id edge.lower)) (sym (add-one k)) lower)

-- a trail over the nodes of a path
pub record HasTrail (links : List Edge) (last : ℕ) (node : NodeId) (count : ℕ) (nodes : List NodeId) : Type 0 where
  pub trail : List ℕ
  pub end : ℕ
  pub down : LeadsDown links last node.0 trail end
  pub size : length trail ≡ count
  pub nodes_are : nodes ≡ node ∷ map (lower_of links) trail

module _ (links : List Edge) (last : ℕ) (within : (link : ℕ) → link < length links → link ≤ last) where
  -- one link more at the top of a trail
  abbrev over : (node lower : NodeId) (count : ℕ) (rest : List NodeId) (link : ℕ) (edge : Edge) → slice_get links link ≡ Some edge → edge.upper ≡ node.0
      → edge.lower ≡ lower.0 → HasTrail links last lower count rest → HasTrail links last node (suc count) (node ∷ rest)
  over node lower count rest link edge at up low has =
      let below : lower_of links link ≡ lower = lower_is links link edge at ∙ ap node_id low in
      record {
        trail = link ∷ has.trail;
        end = has.end;
        down = (edge, at, up, within link (slice_get_within links link edge at), subst (λ n. LeadsDown links last n has.trail has.end) (sym low) has.down);
        size = ap suc has.size;
        nodes_are = ap (λ ns. node ∷ ns) (has.nodes_are ∙ ap (λ n. n ∷ map (lower_of links) has.trail) (sym below));
      }

  pub path_down : (count : ℕ) (node : NodeId) (nodes : List NodeId) → IsPathDown (links_in links) node count nodes → HasTrail links last node count nodes
  path_down zero node nodes is = record { trail = []; end = node.0; down = refl; size = refl; nodes_are = is }
  path_down (suc count) node nodes (lower, rest, is, (link, told, at, up, low), on) =
      let (edge, at', same) = from_column link_in links link told at in
      subst (λ ns. HasTrail links last node (suc count) ns) (sym is)
      (over node lower count rest link edge at' (ap (λ (l : Link). l.upper) same ∙ up) (ap (λ (l : Link). l.lower) same ∙ low)
      (path_down count lower rest on))

  -- a path that goes through a link has a trail that does
  pub step_passes : (through : ℕ) (edge : Edge) → slice_get links through ≡ Some edge → (count : ℕ) (node : NodeId) (nodes : List NodeId)
      → IsPathDown (links_in links) node count nodes → (k : ℕ) → slice_get nodes k ≡ Some (node_id edge.upper)
      → slice_get nodes (suc k) ≡ Some (node_id edge.lower) → (has : HasTrail links last node count nodes) × Contains has.trail through
  step_passes through edge there zero node nodes is k upper lower =
      absurd (omega (arith, slice_get_within nodes (suc k) (node_id edge.lower) lower, ap length is))
  step_passes through edge there (suc count) node nodes (below, rest, is, leads, on) zero upper lower =
      let has = path_down count below rest on in
      let top : node ≡ node_id edge.upper = same_Some node (node_id edge.upper) (ap (λ ns. slice_get ns 0) (sym is) ∙ upper) in
      let first : slice_get rest 0 ≡ Some below = ap (λ ns. slice_get ns 0) has.nodes_are in
      let next : slice_get rest 0 ≡ Some (node_id edge.lower) = ap (λ ns. slice_get ns 1) (sym is) ∙ lower in
      let bottom : below ≡ node_id edge.lower = same_Some below (node_id edge.lower) (sym first ∙ next) in
      let up : edge.upper ≡ node.0 = ap (λ (n : NodeId). n.0) (sym top) in
      let low : edge.lower ≡ below.0 = ap (λ (n : NodeId). n.0) (sym bottom) in
      subst (λ ns. (has : HasTrail links last node (suc count) ns) × Contains has.trail through) (sym is)
      (over node below count rest through edge there up low has, contains_here through has.trail)
  step_passes through edge there (suc count) node nodes (below, rest, is, (link, told, at, up, low), on) (suc k) upper lower =
      let upper' : slice_get rest k ≡ Some (node_id edge.upper) = ap (λ ns. slice_get ns (suc k)) (sym is) ∙ upper in
      let lower' : slice_get rest (suc k) ≡ Some (node_id edge.lower) = ap (λ ns. slice_get ns (suc (suc k))) (sym is) ∙ lower in
      let (has, passes) = step_passes through edge there count below rest on k upper' lower' in
      let (own, at', same) = from_column link_in links link told at in
      subst (λ ns. (has : HasTrail links last node (suc count) ns) × Contains has.trail through) (sym is) (
        over node below count rest link own at' (ap (λ (l : Link). l.upper) same ∙ up) (ap (λ (l : Link). l.lower) same ∙ low) has,
        contains_there link has.trail through passes,
      )

-- the nodes along one link more
pub along_more : (links : List Edge) (node : NodeId) (trail : List ℕ) (i : ℕ) (edge : Edge) (old new : List NodeId) → i < length trail
    → slice_get links (get_or trail i 0) ≡ Some edge → old ≡ node ∷ map (lower_of links) (take i trail) → new ≡ old ++ node_id edge.lower ∷ []
    → new ≡ node ∷ map (lower_of links) (take (i + 1) trail)
along_more links node trail i edge old new near at old_is new_is =
    let more : map (lower_of links) (take (i + 1) trail) ≡ map (lower_of links) (take i trail) ++ lower_of links (get_or trail i 0) ∷ [] =
    ap (map (lower_of links)) (take_more trail i 0 near) ∙ map-append (lower_of links) (take i trail) (get_or trail i 0 ∷ []) in
    new_is ∙ ap (λ ns. ns ++ node_id edge.lower ∷ []) old_is
    ∙ ap (λ n. node ∷ map (lower_of links) (take i trail) ++ n ∷ []) (sym (lower_is links (get_or trail i 0) edge at)) ∙ ap (λ ns. node ∷ ns) (sym more)

-- ---- the walk's trails and the paths

path_is : (links : List Edge) (node : NodeId) (trail : List ℕ) (path : Path) → path.nodes ≡ node ∷ map (lower_of links) trail
    → path ≡ path_along links node trail
path_is links node trail path is = ap (λ ns. let p : Path = record { nodes = ns } in p) is

module _ (links : List Edge) (node : NodeId) (count : ℕ) where
  trail_passes : (through : Option LinkId) → IfSome through (λ l. l.0 < length links) → (trail : List ℕ) → IsTrailOf links (walk_of node count through) trail
      → GoesThrough (links_in links) through (path_along links node trail).nodes
  trail_passes None named trail is = tt
  trail_passes (Some l) named trail is =
      let edge = at_below links l.0 named in
      (link_in edge.0, to_column link_in links l.0 edge.0 edge.1, passes_step links none node trail is.node l.0 edge.0 is.down is.passes edge.1)

  pub path_of_trail : (through : Option LinkId) → IfSome through (λ l. l.0 < length links) → (trail : List ℕ)
      → IsTrailOf links (walk_of node count through) trail → IsPathOf (links_in links) node count through (path_along links node trail)
  path_of_trail through named trail is = record {
    down = subst (λ n. IsPathDown (links_in links) node n (path_along links node trail).nodes) is.size (down_path links none node trail is.node is.down);
    passes = trail_passes through named trail is;
  }

  pub trail_of_path : ((link : ℕ) → link < length links → link ≤ none) → (through : Option LinkId) → (path : Path)
      → IsPathOf (links_in links) node count through path
      → (trail : List ℕ) × IsTrailOf links (walk_of node count through) trail × (path ≡ path_along links node trail)
  trail_of_path few None path is =
      let has = path_down links none few count node path.nodes is.down in (
        has.trail,
        record { node = has.end; down = has.down; size = has.size; passes = tt; above = λ front rest link at e on unmet. omega arith },
        path_is links node has.trail path has.nodes_are,
      )
  trail_of_path few (Some l) path is =
      let (link, at, (k, upper, lower)) = is.passes in
      let (edge, at', same) = from_column link_in links l.0 link at in
      let upper' : slice_get path.nodes k ≡ Some (node_id edge.upper) = upper ∙ ap (λ (q : Link). Some (node_id q.upper)) (sym same) in
      let lower' : slice_get path.nodes (suc k) ≡ Some (node_id edge.lower) =
      subst (λ n. slice_get path.nodes n ≡ Some (node_id link.lower)) (add-one k) lower ∙ ap (λ (q : Link). Some (node_id q.lower)) (sym same) in
      let (has, passes) = step_passes links none few l.0 edge at' count node path.nodes is.down k upper' lower' in (
        has.trail,
        record { node = has.end; down = has.down; size = has.size; passes = passes; above = λ front rest link at e on unmet. omega arith },
        path_is links node has.trail path has.nodes_are,
      )

-- ---- the list that the walk is made into

-- the paths of all trails but those to come, each once
pub record ArePathsSoFar (links : List Edge) (node : NodeId) (count : ℕ) (through : Option LinkId) (at : Standing) (is_more : Bool) (found : List Path)
    : Type 0 where
  pub walk : at.walk ≡ walk_of node count through
  pub begun : IsTrue at.is_begun
  pub on : IsOn links at
  pub here : IsTrue is_more → IsTrailOf links (walk_of node count through) at.trail
  pub distinct : IsDistinct found
  pub within : (path : Path) → Contains found path
      → (trail : List ℕ) × IsTrailOf links (walk_of node count through) trail × (path ≡ path_along links node trail)
  pub all : (trail : List ℕ) → IsTrailOf links (walk_of node count through) trail
      → (IsTrue is_more × ((trail ≡ at.trail) ⊎ IsTrailBefore at.trail trail)) ⊎ Contains found (path_along links node trail)

distinct_pushed : {X : Type 0} (xs : List X) (x : X) → IsDistinct xs → (Contains xs x → ⊥) → IsDistinct (xs ++ x ∷ [])
distinct_pushed xs x d n = distinct_append xs (x ∷ []) d ((λ c. absurd (omega (arith, c.1)), tt)) (λ z c e. elim (contains_cases x [] z e) [
  | inl same ↦ n (subst (λ q. Contains xs q) (sym same) c)
  | inr none ↦ absurd (omega (arith, none.1))
])

module _ {X : Type 0} (old new : List X) (x : X) (adds : AddsNew old new x) where
  adds_kept : (y : X) → Contains old y → Contains new y
  adds_kept y c = elim adds [
    | inl was ↦ subst (λ xs. Contains xs y) (sym was.1) c
    | inr is ↦ subst (λ xs. Contains xs y) (sym is.1) (Contains-append_left old (x ∷ []) y c)
  ]

  adds_it : Contains new x
  adds_it = elim adds [
    | inl was ↦ subst (λ xs. Contains xs x) (sym was.1) was.0
    | inr is ↦ subst (λ xs. Contains xs x) (sym is.1) (Contains-append_right old (x ∷ []) x (contains_here x []))
  ]

  adds_distinct : IsDistinct old → IsDistinct new
  adds_distinct d = elim adds [
    | inl was ↦ subst (λ xs. IsDistinct xs) (sym was.1) d
    | inr is ↦ subst (λ xs. IsDistinct xs) (sym is.1) (distinct_pushed old x d is.0)
  ]

  adds_only : (y : X) → Contains new y → Contains old y ⊎ (x ≡ y)
  adds_only y c = elim adds [
    | inl was ↦ inl (subst (λ xs. Contains xs y) was.1 c)
    | inr is ↦ elim (Contains-push_cases old x y (subst (λ xs. Contains xs y) is.1 c)) [ inl before ↦ inl before | inr now ↦ inr now ]
  ]

module _ (links : List Edge) (node : NodeId) (count : ℕ) (through : Option LinkId) where
  abbrev pub new_walk : Standing
  new_walk = record { walk = walk_of node count through; is_begun = false; trail = [] }

  pub paths_first : (at : Standing) (is_more : Bool) → at.walk ≡ walk_of node count through → IsTrue at.is_begun → IsOn links at
      → (IsTrue is_more → IsNextTrail links new_walk at.trail) → (is_more ≡ false → IsAtEnd links new_walk)
      → ArePathsSoFar links node count through at is_more []
  paths_first at is_more walk begun on next end = record {
    walk = walk;
    begun = begun;
    on = on;
    here = λ t. (next t).is;
    distinct = tt;
    within = λ path c. absurd (omega (arith, c.1));
    all = λ trail is. inl (comes links new_walk at is_more next end trail is (tt, λ t. absurd (let no = t in cc)));
  }

  module _ (at at' : Standing) (is_more : Bool) (found new : List Path) (so_far : ArePathsSoFar links node count through at true found)
      (walk : at'.walk ≡ at.walk) (begun : IsTrue at'.is_begun) (on : IsOn links at')
      (next : IsTrue is_more → IsNextTrail links at at'.trail) (end : is_more ≡ false → IsAtEnd links at) where
    pub paths_more : AddsNew found new (path_along links node at.trail) → ArePathsSoFar links node count through at' is_more new
    paths_more adds = record {
      walk = walk ∙ so_far.walk;
      begun = begun;
      on = on;
      here = λ t. subst (λ (w : Walk). IsTrailOf links w at'.trail) so_far.walk (next t).is;
      distinct = adds_distinct found new (path_along links node at.trail) adds so_far.distinct;
      within = λ path c. elim (adds_only found new (path_along links node at.trail) adds path c) [
        | inl before ↦ so_far.within path before
        | inr now ↦ (at.trail, so_far.here refl, sym now)
      ];
      all = λ trail is. elim (so_far.all trail is) [
        | inr before ↦ inr (adds_kept found new (path_along links node at.trail) adds (path_along links node trail) before)
        | inl (more, inl here) ↦
            inr (subst (λ t. Contains new (path_along links node t)) (sym here) (adds_it found new (path_along links node at.trail) adds))
        | inl (more, inr behind) ↦
            inl (comes links at at' is_more next end trail (subst (λ (w : Walk). IsTrailOf links w trail) (sym so_far.walk) is)
            (from_before at.trail trail behind, λ t. behind))
      ];
    }

    pub paths_fewer : calls_left at' is_more < calls_left at true
    paths_fewer = fewer_calls links at at' is_more so_far.begun so_far.on walk on next

  pub paths_all : (at : Standing) (found : List Path) → length links < none + 1 → IfSome through (λ l. l.0 < length links)
      → ArePathsSoFar links node count through at false found → AreAll (IsPathOf (links_in links) node count through) found
  paths_all at found few named so_far = record {
    distinct = so_far.distinct;
    within = λ path c.
        let (trail, is, same) = so_far.within path c in
        subst (λ (p : Path). IsPathOf (links_in links) node count through p) (sym same) (path_of_trail links node count through named trail is);
    all = λ path is.
        let (trail, is_trail, same) = trail_of_path links node count (λ link l. omega (arith, l, few)) through path is in
        elim (so_far.all trail is_trail) [
          | inl (more, other) ↦ absurd (let no = more in cc)
          | inr there ↦ subst (λ (p : Path). Contains found p) (sym same) there
        ];
  }

  -- the links of the trail that the walk stands at are the graph's
  pub here_within : (at : Standing) (found : List Path) → ArePathsSoFar links node count through at true found → (link : ℕ) → Contains at.trail link
      → link < length links
  here_within at found so_far link c = let is = so_far.here refl in down_within links none node.0 at.trail is.node is.down link c

-- ---- whether a path is there

or_cases : (a b : Bool) → (a || b) ≡ true → (a ≡ true) ⊎ (b ≡ true)
or_cases true b e = inl refl
or_cases false b e = inr e

list_any-decides : {X : Type 0} (eq : X → X → Bool) → ((a b : X) → Decides (eq a b) (a ≡ b)) → (xs : List X) (x : X)
    → Decides (list_any (λ y. eq y x) xs) (Contains xs x)
list_any-decides eq decides [] x = (λ e. absurd cc, λ c. absurd (omega (arith, c.1)))
list_any-decides eq decides (y ∷ ys) x = (
  λ e. elim (or_cases (eq y x) (list_any (λ z. eq z x) ys) e) [
    | inl same ↦ subst (λ z. Contains (y ∷ ys) z) ((decides y x).0 same) (contains_here y ys)
    | inr behind ↦ contains_there y ys x ((list_any-decides eq decides ys x).0 behind)
  ],
  λ c. elim (contains_cases y ys x c) [
    | inl same ↦ or_left (eq y x) (list_any (λ z. eq z x) ys) ((decides y x).1 same)
    | inr behind ↦ or_right (eq y x) (list_any (λ z. eq z x) ys) ((list_any-decides eq decides ys x).1 behind)
  ],
)

node_eq-decides : (a b : NodeId) → Decides (nat_eq a.0 b.0) (a ≡ b)
node_eq-decides a b = let numbers = unsigned_Decides a.0 b.0 in (λ e. ap node_id (numbers.0 e), λ e. numbers.1 (ap (λ (n : NodeId). n.0) e))

path_eq-decides : (a b : Path) → Decides (pointwise (λ (n m : NodeId). nat_eq n.0 m.0) a.nodes b.nodes) (a ≡ b)
path_eq-decides a b =
    let nodes = slice_eq-Decides node_eq-decides a.nodes b.nodes (pointwise (λ (n m : NodeId). nat_eq n.0 m.0) a.nodes b.nodes) refl in
    (λ e. ap (λ ns. let p : Path = record { nodes = ns } in p) (nodes.0 e), λ e. nodes.1 (ap (λ (p : Path). p.nodes) e))

pub has_path : (found : List Path) (path : Path) (has : Bool) → has ≡ list_any (λ p. pointwise (λ (n m : NodeId). nat_eq n.0 m.0) p.nodes path.nodes) found
    → Decides has (Contains found path)
has_path found path has is =
    let decides = list_any-decides (λ (p q : Path). pointwise (λ (n m : NodeId). nat_eq n.0 m.0) p.nodes q.nodes) path_eq-decides found path in
    subst (λ b. Decides b (Contains found path)) (sym is) decides
