-- What is kept beside nodes and links stays right as they are added.
use Rattle.std.proofs.Common.{◌≡◌, inl, inr, ◌⊎◌, ℕ, ◌+◌, ◌<◌, ◌≤◌, List, [], ◌∷◌, ◌++◌, length, replicate, take, Some, slice_get, sym, ap}
use Rattle.std.proofs.Common.{◌∙◌, subst, arith, length-append}
use Rattle.std.proofs.Math.ListN.{set}
use Rattle.std.proofs.lemmas.List.{map-append, length-map, length-set, take_all}
use Rattle.std.proofs.lemmas.Option.{slice_get_within}
use Rattle.gss.specs.declared.stack_graph.Place.{Place}
use Rattle.gss.specs.declared.stack_graph.Edge.{Edge}
use Rattle.gss.specs.declared.rows.NodeRow.{NodeRow}
use Rattle.gss.specs.declared.rows.LinkRow.{LinkRow}
use Rattle.gss.specs.PlaceGraphs.{HasNode}
use Rattle.gss.specs.Chains.{none, IsKeyAt, AreBelow, AreFirsts, AreLasts, AreNexts, AreOlders, TellsGreatest}
use Rattle.gss.specs.Rows.{states, uppers, lowers, places, first_links, last_links, aboves, edges, nexts, olders, AreFound, AreLinked, PutsAbove, PutsBelow}
use Rattle.gss.proofs.Chains.{get_last, told_none, told_some, lasts_more, firsts_more, firsts_kept, nexts_more, nexts_linked, olders_more, below_more}
use Rattle.gss.proofs.Chains.{firsts_padded, lasts_padded}

both : (P : List ℕ → List ℕ → Type 0) (keys keys' column column' : List ℕ) → keys' ≡ keys → column' ≡ column → P keys column → P keys' column'
both P keys keys' column column' e f p = subst (λ k. P k column') (sym e) (subst (λ c. P keys c) (sym f) p)

-- ---- a node more

pub found_padded : (nodes : List Place) (newest : List ℕ) (n : ℕ) → AreFound nodes newest → AreFound nodes (newest ++ replicate n none)
found_padded nodes newest n are = record {
  few = are.few;
  distinct = are.distinct;
  within = λ l key at. omega (arith, are.within l key at, length-append newest (replicate n none));
  of_state = lasts_padded (states nodes) newest n are.within are.of_state;
}

pub found_more : (nodes : List Place) (newest : List ℕ) (node : Place) (n : ℕ) → n ≡ length nodes → n < none → node.state < length newest
    → (HasNode nodes node.state node.at → ⊥) → AreFound nodes newest → AreFound (nodes ++ node ∷ []) (set newest node.state n)
found_more nodes newest node n size small room new are =
    let keys : states (nodes ++ node ∷ []) ≡ states nodes ++ node.state ∷ [] = map-append (λ (p : Place). p.state) nodes (node ∷ []) in
    let long : n ≡ length (states nodes) = size ∙ sym (length-map nodes (λ (p : Place). p.state)) in
    let wide : length newest ≡ length (set newest node.state n) = sym (length-set newest node.state n) in
    record {
      few = omega (arith, length-append nodes (node ∷ []), size, small);
      distinct = λ i j p at_i at_j. elim (get_last nodes node p i at_i) [
        | inl old_i ↦ elim (get_last nodes node p j at_j) [
          | inl old_j ↦ are.distinct i j p old_i old_j
          | inr new_j ↦ absurd (new (i, subst (λ q. slice_get nodes i ≡ Some q) (sym new_j.1) old_i))
        ]
        | inr new_i ↦ elim (get_last nodes node p j at_j) [
          | inl old_j ↦ absurd (new (j, subst (λ q. slice_get nodes j ≡ Some q) (sym new_i.1) old_j))
          | inr new_j ↦ omega (arith, new_i.0, new_j.0)
        ]
      ];
      within = subst (λ k. AreBelow k (length (set newest node.state n))) (sym keys) (subst (λ w. AreBelow (states nodes ++ node.state ∷ []) w) wide
          (below_more (states nodes) node.state n long (length newest) room are.within));
      of_state = subst (λ k. AreLasts k (set newest node.state n)) (sym keys) (lasts_more (states nodes) node.state n long newest small are.of_state);
    }

pub found_resized : (nodes : List Place) (newest new : List ℕ) (size more : ℕ) → length newest ≤ size → new ≡ take size newest ++ replicate more none
    → AreFound nodes newest → AreFound nodes new
found_resized nodes newest new size more less is are = subst (λ n. AreFound nodes n)
    (sym (is ∙ ap (λ front. front ++ replicate more none) (take_all size newest less))) (found_padded nodes newest more are)

pub found_pushed : (nodes pushed : List NodeRow) (newest : List ℕ) (row : NodeRow) (n : ℕ) → pushed ≡ nodes ++ row ∷ [] → n ≡ length nodes → n < none
    → row.place.state < length newest → (HasNode (places nodes) row.place.state row.place.at → ⊥) → AreFound (places nodes) newest
    → AreFound (places pushed) (set newest row.place.state n)
found_pushed nodes pushed newest row n is size small room new are =
    let places_are : places pushed ≡ places nodes ++ row.place ∷ [] = ap places is ∙ map-append (λ (r : NodeRow). r.place) nodes (row ∷ []) in
    subst (λ p. AreFound p (set newest row.place.state n)) (sym places_are)
    (found_more (places nodes) newest row.place n (size ∙ sym (length-map nodes (λ (r : NodeRow). r.place))) small room new are)

pub linked_node : (nodes : List NodeRow) (links : List LinkRow) (node : Place) → AreLinked nodes links
    → AreLinked (nodes ++ record { place = node; first = none; last = none; above = none } ∷ []) links
linked_node nodes links node are =
    let row : NodeRow = record { place = node; first = none; last = none; above = none } in
    let size : length (nodes ++ row ∷ []) ≡ length nodes + 1 = length-append nodes (row ∷ []) in
    record {
      few = are.few;
      uppers_within = λ l key at. omega (arith, are.uppers_within l key at, size);
      lowers_within = λ l key at. omega (arith, are.lowers_within l key at, size);
      first = subst (λ c. AreFirsts (uppers (edges links)) c) (sym (map-append (λ (r : NodeRow). r.first) nodes (row ∷ [])))
          (firsts_padded (uppers (edges links)) (first_links nodes) 1
          (λ l key at. omega (arith, are.uppers_within l key at, length-map nodes (λ (r : NodeRow). r.first))) are.first);
      last = subst (λ c. AreLasts (uppers (edges links)) c) (sym (map-append (λ (r : NodeRow). r.last) nodes (row ∷ [])))
          (lasts_padded (uppers (edges links)) (last_links nodes) 1
          (λ l key at. omega (arith, are.uppers_within l key at, length-map nodes (λ (r : NodeRow). r.last))) are.last);
      next = are.next;
      above = subst (λ c. AreLasts (lowers (edges links)) c) (sym (map-append (λ (r : NodeRow). r.above) nodes (row ∷ [])))
          (lasts_padded (lowers (edges links)) (aboves nodes) 1
          (λ l key at. omega (arith, are.lowers_within l key at, length-map nodes (λ (r : NodeRow). r.above))) are.above);
      older = are.older;
    }

-- ---- a link more

-- the last link of a node is one that is there
pub last_within : (nodes : List NodeRow) (links : List LinkRow) (n last : ℕ) → AreLinked nodes links → slice_get (last_links nodes) n ≡ Some last
    → (last ≡ none) ⊎ (last < length links)
last_within nodes links n last are at = by last (are.last n last at)
  where
    long : length (uppers (edges links)) ≡ length links
    long = length-map (edges links) (λ (e : Edge). e.upper) ∙ length-map links (λ (r : LinkRow). r.edge)

    by : (r : ℕ) → TellsGreatest (IsKeyAt (uppers (edges links)) n) r → (r ≡ none) ⊎ (r < length links)
    by r (TellsGreatest.greatest small is) = inr (omega (arith, slice_get_within (uppers (edges links)) r n is.is, long))
    by r (TellsGreatest.no_greatest e nothing) = inl e

module _ (nodes : List NodeRow) (links : List LinkRow) (edge : Edge) (above m : ℕ) (are : AreLinked nodes links) (size : m ≡ length links)
    (room : m < none) (up : edge.upper < length nodes) (low : edge.lower < length nodes) (above_is : slice_get (aboves nodes) edge.lower ≡ Some above)
    (pushed : List LinkRow) (pushed_is : pushed ≡ links ++ record { edge = edge; next = none; older = above } ∷ []) (mid new_nodes : List NodeRow)
    (new_links : List LinkRow) (a : PutsAbove nodes mid edge.lower m) (b : PutsBelow mid new_nodes pushed new_links edge.upper m) where
  row : LinkRow
  row = record { edge = edge; next = none; older = above }

  pub edges_are : edges new_links ≡ edges links ++ edge ∷ []
  edges_are = b.edge ∙ ap edges pushed_is ∙ map-append (λ (r : LinkRow). r.edge) links (record { edge = edge; next = none; older = above } ∷ [])

  pub places_are : places new_nodes ≡ places nodes
  places_are = b.place ∙ a.place

  as_many : length new_nodes ≡ length nodes
  as_many = sym (length-map new_nodes (λ (r : NodeRow). r.place)) ∙ ap length places_are ∙ length-map nodes (λ (r : NodeRow). r.place)

  uppers_are : uppers (edges new_links) ≡ uppers (edges links) ++ edge.upper ∷ []
  uppers_are = ap uppers edges_are ∙ map-append (λ (e : Edge). e.upper) (edges links) (edge ∷ [])

  lowers_are : lowers (edges new_links) ≡ lowers (edges links) ++ edge.lower ∷ []
  lowers_are = ap lowers edges_are ∙ map-append (λ (e : Edge). e.lower) (edges links) (edge ∷ [])

  edges_long : length (edges links) ≡ length links
  edges_long = length-map links (λ (r : LinkRow). r.edge)

  uppers_long : m ≡ length (uppers (edges links))
  uppers_long = size ∙ sym (length-map (edges links) (λ (e : Edge). e.upper) ∙ edges_long)

  lowers_long : m ≡ length (lowers (edges links))
  lowers_long = size ∙ sym (length-map (edges links) (λ (e : Edge). e.lower) ∙ edges_long)

  nexts_long : length (nexts links) ≡ m
  nexts_long = length-map links (λ (r : LinkRow). r.next) ∙ sym size

  olders_long : length (olders links) ≡ m
  olders_long = length-map links (λ (r : LinkRow). r.older) ∙ sym size

  nexts_pushed : nexts pushed ≡ nexts links ++ none ∷ []
  nexts_pushed = ap nexts pushed_is ∙ map-append (λ (r : LinkRow). r.next) links (record { edge = edge; next = none; older = above } ∷ [])

  olders_are : olders new_links ≡ olders links ++ above ∷ []
  olders_are = b.older ∙ ap olders pushed_is ∙ map-append (λ (r : LinkRow). r.older) links (record { edge = edge; next = none; older = above } ∷ [])

  was_last : slice_get (last_links nodes) edge.upper ≡ Some b.was
  was_last = subst (λ c. slice_get c edge.upper ≡ Some b.was) a.last b.was_last

  tells : TellsGreatest (IsKeyAt (uppers (edges links)) edge.upper) b.was
  tells = are.last edge.upper b.was was_last

  first_is : AreFirsts (uppers (edges new_links)) (first_links new_nodes)
  first_is = elim b.chain [
    | inl alone ↦ both AreFirsts _ _ _ _ uppers_are (alone.1 ∙ ap (λ c. set c edge.upper m) a.first)
        (firsts_more (uppers (edges links)) edge.upper m uppers_long (first_links nodes) room (told_none _ b.was alone.0 tells) are.first)
    | inr more ↦ both AreFirsts _ _ _ _ uppers_are (more.1 ∙ a.first)
        (firsts_kept (uppers (edges links)) edge.upper m uppers_long (first_links nodes) b.was (told_some _ b.was more.0 tells).is are.first)
  ]

  next_is : AreNexts (uppers (edges new_links)) (nexts new_links)
  next_is = elim b.chain [
    | inl alone ↦ both AreNexts _ _ _ _ uppers_are (alone.2 ∙ nexts_pushed)
        (nexts_more (uppers (edges links)) edge.upper m uppers_long (nexts links) nexts_long (told_none _ b.was alone.0 tells) are.next)
    | inr more ↦ both AreNexts _ _ _ _ uppers_are (more.2 ∙ ap (λ c. set c b.was m) nexts_pushed)
        (nexts_linked (uppers (edges links)) edge.upper m uppers_long (nexts links) b.was nexts_long room (told_some _ b.was more.0 tells) are.next)
  ]

  pub linked_more : AreLinked new_nodes new_links
  linked_more = record {
    few = omega (
      arith,
      length-map new_links (λ (r : LinkRow). r.edge),
      ap length edges_are,
      length-append (edges links) (edge ∷ []),
      edges_long,
      size,
      room,
    );
    uppers_within = subst (λ k. AreBelow k (length new_nodes)) (sym uppers_are) (subst (λ n. AreBelow (uppers (edges links) ++ edge.upper ∷ []) n) (sym as_many)
        (below_more (uppers (edges links)) edge.upper m uppers_long (length nodes) up are.uppers_within));
    lowers_within = subst (λ k. AreBelow k (length new_nodes)) (sym lowers_are) (subst (λ n. AreBelow (lowers (edges links) ++ edge.lower ∷ []) n) (sym as_many)
        (below_more (lowers (edges links)) edge.lower m lowers_long (length nodes) low are.lowers_within));
    first = first_is;
    last = both AreLasts _ _ _ _ uppers_are (b.last ∙ ap (λ c. set c edge.upper m) a.last)
        (lasts_more (uppers (edges links)) edge.upper m uppers_long (last_links nodes) room are.last);
    next = next_is;
    above = both AreLasts _ _ _ _ lowers_are (b.above ∙ a.above)
        (lasts_more (lowers (edges links)) edge.lower m lowers_long (aboves nodes) room are.above);
    older = both AreOlders _ _ _ _ lowers_are olders_are
        (olders_more (lowers (edges links)) edge.lower m lowers_long (olders links) above olders_long (are.above edge.lower above above_is) are.older);
  }
