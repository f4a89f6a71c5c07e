-- The reductions along trails through one link, from one node of the level after the other.
use Rattle.std.proofs.Common.{◌≡◌, ℕ, suc, ◌+◌, ◌<◌, ◌≤◌, ◌⊎◌, inl, inr, List, length, sym, subst, arith, Contains, slice_get, Some, IsTrue}
use Rattle.std.proofs.lemmas.Bool.{cases_lt}
use Rattle.std.proofs.lemmas.Option.{slice_get_within}
use Rattle.forest.specs.declared.symbols.SymbolId.{SymbolId}
use Rattle.forest.specs.declared.rules.Rule.{Rule}
use Rattle.edit_log.specs.History.{Grammar}
use Rattle.item_sets.specs.declared.item.Item.{Item}
use Rattle.item_sets.proofs.Numbering.{IsNumbered}
use Rattle.item_sets.proofs.Chains.{at_below}
use Rattle.live_graph.specs.Meaning.{GraphMeaning}
use Rattle.gss.specs.declared.stack_graph.Edge.{Edge}
use Rattle.gss.specs.PlaceGraphs.{place_with}
use Rattle.packed_spans.specs.Packed.{PackedSplit}
use Rattle.parser_states.specs.declared.reduction.Reduction.{Reduction}
use Rattle.parser_states.specs.Asked.{StandsButKernels}
use Rattle.parser_states.proofs.AskedKernels.{stands_same, stands_join}
use Rattle.rekers.specs.declared.parser.Parser.{Parser}
use Rattle.rekers.specs.declared.level.Level.{Level}
use Rattle.forest.specs.Numbers.{KeepsNumbers}
use Rattle.rekers.specs.Found.{Findings, found, IsNode, Grows}
use Rattle.rekers.specs.Reductions.{IsReducible, IsReduced, IsFoundAlong, IsBelow, IsWorked}
use Rattle.rekers.specs.Sound.{IsSoundParser, IsSoundGraph}
use Rattle.rekers.specs.Steps.{IsThrough, IsAnyFresh, IsNodeWalked, IsStep, IsWithinLimit, IsOfLevel}
use Rattle.rekers.proofs.Growth.{node_below, told_grows}
use Rattle.rekers.proofs.Trails.{between, one_told, trail_rises}
use Rattle.rekers.proofs.Walks.{partial_left, reduced_on, told_back}
use Rattle.rekers.proofs.Worked.{below_each, reducible_back, worked_link}
use Rattle.rekers.proofs.Stepping.{step_none, step_on}
use Rattle.rekers.proofs.StartedWalks.{ends_up}

-- all reductions from the top along trails through the link are made
abbrev pub AreTopMade : List Rule → Findings → (top through at : ℕ) → Type 0
AreTopMade rules f top through at = (reduction : Reduction) (lower : ℕ) (trail labels : List ℕ) → IsReducible rules f reduction lower trail labels top at
    → IsThrough through trail → IsReduced f reduction lower labels at

-- the reductions from the nodes before this one are made along all trails through the link, and no other splits are new
pub record AreNodesWalked (rules : List Rule) (old new : Findings) (first past through at : ℕ) : Type 0 where
  pub all : (top : ℕ) → first ≤ top → top < past → AreTopMade rules new top through at
  pub only : (split : PackedSplit) → Contains new.splits split
      → Contains old.splits split ⊎ ((trail : List ℕ) × (top : ℕ) × (top < past) × IsFoundAlong rules new split trail top × IsThrough through trail)

pub nodes_walked_none : (rules : List Rule) (f : Findings) (first through at : ℕ) → AreNodesWalked rules f f first first through at
nodes_walked_none rules f first through at = record { all = λ top above before. absurd (omega (arith, above, before)); only = λ split c. inl c }

-- a trail that is below has no link that is not
not_through : (links nodes : ℕ) (trail : List ℕ) (top : ℕ) → IsBelow links nodes trail top → IsThrough links trail → ⊥
not_through links nodes trail top below through = omega (arith, below_each links nodes trail top below links through.has)

module _ (rules : List Rule) (tokens : List SymbolId) (numbers : IsNumbered rules) (old f : Findings) (graph : IsSoundGraph rules tokens old)
    (graph' : IsSoundGraph rules tokens f) (grows : Grows old f) (through at : ℕ) where
  -- no split was found from the next node
  pub any_fresh : (first node nodes : ℕ) → IsWorked rules old through nodes → AreNodesWalked rules old f first node through at → IsAnyFresh rules f node through
  any_fresh first node nodes worked walked split trail c told by = elim (walked.only split c) [
    | inl in_old ↦
        let was = told_back rules tokens old f graph grows numbers graph' split trail node in_old told in
        not_through through nodes trail node (worked.only split trail node in_old was) by
    | inr (other, top, before, is, by') ↦ omega (arith, before, (one_told rules tokens f graph' numbers is told).1)
  ]

  -- the next node is walked too
  pub nodes_walked_next : (g : Findings) → IsSoundGraph rules tokens g → Grows f g → through < length f.links → (first node : ℕ)
      → AreNodesWalked rules old f first node through at → IsNodeWalked rules f g node through at → AreNodesWalked rules old g first (node + 1) through at
  nodes_walked_next g graph'' grows' below first node walked more = record {
    all = λ top above before reduction lower trail labels p by. elim (cases_lt top node) [
      | inl less ↦
          let was = reducible_back rules tokens numbers f g graph' graph'' grows' p through by.has (λ link c. omega (arith, by.none_behind link c, below)) in
          reduced_on rules tokens f g graph' grows' (partial_left p) (walked.all top above less reduction lower trail labels was by)
      | inr not ↦
          let same : top ≡ node = omega (arith, before, not) in
          more.all reduction lower trail labels (subst (λ n. IsReducible rules g reduction lower trail labels n at) same p) by
    ];
    only = λ split c. elim (more.only split c) [
      | inl in_f ↦ elim (walked.only split in_f) [
        | inl in_old ↦ inl in_old
        | inr (trail, top, before, is, by) ↦ inr (trail, top, omega (arith, before), told_grows f g grows' is, by)
      ]
      | inr (trail, is, by) ↦ inr (trail, node, omega arith, is, by)
    ];
  }

-- ---- one link more is worked

module _ (rules : List Rule) (tokens : List SymbolId) (p : Parser) (sound : IsSoundParser rules tokens p) (g : Findings) (graph' : IsSoundGraph rules tokens g)
    (grows : Grows (found p) g) (through nodes : ℕ) (worked : IsWorked rules (found p) through nodes) (all_nodes : nodes ≡ length p.stacks.nodes)
    (of_level : IsOfLevel (found p) p.level.first_link through) where
  are_nodes : (node : ℕ) → node < nodes → (w : List Item) × (i : ℕ) × IsNode (found p) node w i
  are_nodes node l =
      let (place, there) = at_below p.stacks.nodes node (omega (arith, l, all_nodes)) in
      let (kernel, is, reached) = sound.graph.nodes node place there in
      (kernel, place.at, record { state = place.state; there = there; is_kernel = is })

  was_there : {reduction : Reduction} {lower : ℕ} {trail labels : List ℕ} {top at : ℕ} → IsReducible rules g reduction lower trail labels top at
      → IsThrough through trail → IsReducible rules (found p) reduction lower trail labels top at
  was_there q by = reducible_back rules tokens sound.numbered (found p) g sound.graph graph' grows q through by.has
      (λ link c. omega (arith, by.none_behind link c, of_level.is))

  -- a trail through the link leads up to a node of the level
  pub record IsTopHere (top at : ℕ) : Type 0 where
    pub above : p.level.first_node ≤ top
    pub before : top < nodes
    pub place : at ≡ p.level.at

  top_here : {reduction : Reduction} {lower : ℕ} {trail labels : List ℕ} {top at : ℕ} → IsReducible rules (found p) reduction lower trail labels top at
      → Contains trail through → IsTopHere top at
  top_here {top = top} {at = at} q has =
      let (edge, there) = at_below p.stacks.links through of_level.is in
      let b = between rules tokens (found p) sound.graph through {upper = edge.upper} {x = edge.symbol} {lower = edge.lower} {label = edge.label} there in
      let rises : b.to ≤ at = trail_rises rules tokens (found p) sound.graph q.along through has edge there (place_with b.upper_is.state b.to)
      (place_with q.top_is.state at) b.upper_is.there q.top_is.there in
      let here : b.to ≡ p.level.at = sound.level.nodes_here edge.upper _ b.upper_is.there (sound.level.links_here through edge there of_level.of_level) in
      let above : p.level.first_node ≤ top = elim (cases_lt top p.level.first_node) [
        | inl less ↦ absurd (omega (arith, sound.level.nodes_before top _ q.top_is.there less, rises, here))
        | inr not ↦ not
      ] in
      record {
        above = above;
        before = omega (arith, all_nodes, node_below q.top_is);
        place = sound.level.nodes_here top _ q.top_is.there above;
      }

  pub link_worked : AreNodesWalked rules (found p) g p.level.first_node nodes through p.level.at → IsWorked rules g (suc through) nodes
  link_worked walked = worked_link rules tokens sound.numbered (found p) g sound.graph graph' grows through nodes (omega (arith, of_level.is)) are_nodes worked
      (λ reduction lower trail labels top at q by.
      let is = top_here (was_there q by) by.has in
      let here = walked.all top is.above is.before reduction lower trail labels
      (subst (λ n. IsReducible rules g reduction lower trail labels top n) is.place q) by in
      subst (λ n. IsReduced g reduction lower labels n) (sym is.place) here)
      (λ split c. elim (walked.only split c) [
        | inl in_old ↦ inl in_old
        | inr (trail, top, before, is, by) ↦ inr (trail, top, is, by)
      ])

  -- where no link of the level leads down to a node of the level, all trails through the link lead up to its upper end
  pub link_worked_flat : IsTrue p.is_flat → (edge : Edge) → slice_get p.stacks.links through ≡ Some edge
      → IsNodeWalked rules (found p) g edge.upper through p.level.at → IsWorked rules g (suc through) nodes
  link_worked_flat is_flat edge there walked =
      worked_link rules tokens sound.numbered (found p) g sound.graph graph' grows through nodes (omega (arith, of_level.is)) are_nodes worked
      (λ reduction lower trail labels top at q by.
      let was = was_there q by in
      let is = top_here was by.has in
      let up = ends_up rules tokens (found p) sound.graph p.level.at p.level.first_node p.level.first_link sound.level (sound.flat is_flat) was.along
      through edge there of_level.of_level by.has in
      let at_upper = subst (λ n. IsReducible rules g reduction lower trail labels n at) (sym up.is_top) q in
      let here = walked.all reduction lower trail labels
      (subst (λ n. IsReducible rules g reduction lower trail labels edge.upper n) is.place at_upper) by in
      subst (λ n. IsReduced g reduction lower labels n) (sym is.place) here)
      (λ split c. elim (walked.only split c) [
        | inl in_old ↦ inl in_old
        | inr (trail, is, by) ↦ inr (trail, edge.upper, is, by)
      ])

-- no split was found along a trail through the link
pub none_through : (rules : List Rule) (f : Findings) (through nodes node : ℕ) → IsWorked rules f through nodes → IsAnyFresh rules f node through
none_through rules f through nodes node worked split trail c told by = not_through through nodes trail node (worked.only split trail node c told) by

-- ---- the loop over the nodes

-- The parser has made the reductions from the nodes before this one.
pub record IsLinkUnderWay {Base : Type 0} (tokens : List SymbolId) (old new : Parser) (graph graph' : GraphMeaning Base) (before after : ℕ)
    (first node link : ℕ) : Type 0 where
  pub step : IsStep tokens old new graph graph' before after
  pub stands : StandsButKernels graph graph'
  pub back : before ≤ after
  pub within : IsWithinLimit new
  pub walked : AreNodesWalked graph.grammar.rules (found old) (found new) first node link old.level.at

pub link_way_none : {Base : Type 0} (tokens : List SymbolId) (p : Parser) (graph : GraphMeaning Base) (steps first link : ℕ)
    → IsSoundParser graph.grammar.rules tokens p
    → IsWithinLimit p → IsLinkUnderWay tokens p p graph graph steps steps first first link
link_way_none tokens p graph steps first link sound within = record {
  step = step_none tokens p graph steps sound;
  stands = stands_same graph;
  back = omega arith;
  within = within;
  walked = nodes_walked_none graph.grammar.rules (found p) first link p.level.at;
}

still_within : {X : Type 0} (xs ys : List X) (n : ℕ) → KeepsNumbers xs ys → n < length xs → n < length ys
still_within xs ys n keeps l = let (x, e) = at_below xs n l in slice_get_within ys n x (keeps n x e)

module _ {Base : Type 0} (tokens : List SymbolId) (old p : Parser) (graph first : GraphMeaning Base) (before between : ℕ) (begin node link nodes : ℕ)
    (sound : IsSoundParser graph.grammar.rules tokens old) (of_level : IsOfLevel (found old) old.level.first_link link)
    (way : IsLinkUnderWay tokens old p graph first before between begin node link) where
  now : IsSoundParser graph.grammar.rules tokens p
  now = subst (λ (gr : Grammar). IsSoundParser gr.rules tokens p) way.stands.grammar way.step.sound

  pub link_still : IsOfLevel (found p) p.level.first_link link
  link_still = record {
    is = still_within old.stacks.links p.stacks.links link way.step.grows.links of_level.is;
    of_level = subst (λ (lv : Level). lv.first_link ≤ link) (sym way.step.level) of_level.of_level;
  }

  pub node_still : nodes ≡ length old.stacks.nodes → node < nodes → node < length p.stacks.nodes
  node_still all l = still_within old.stacks.nodes p.stacks.nodes node way.step.grows.nodes (omega (arith, all, l))

  pub still_fresh : IsWorked graph.grammar.rules (found old) link nodes → IsAnyFresh first.grammar.rules (found p) node link
  still_fresh worked = subst (λ (gr : Grammar). IsAnyFresh gr.rules (found p) node link) (sym way.stands.grammar)
      (any_fresh graph.grammar.rules tokens now.numbered (found old) (found p) sound.graph now.graph way.step.grows link old.level.at begin node nodes
      worked way.walked)

  pub link_way_on : (q : Parser) (second : GraphMeaning Base) (after : ℕ) → IsStep tokens p q first second between after
      → IsStep tokens old q graph second before after
  link_way_on q second after step = step_on tokens old p q graph first second before between after way.step step

  pub link_way_more : (q : Parser) (second : GraphMeaning Base) (after : ℕ) → IsStep tokens p q first second between after
      → IsNodeWalked first.grammar.rules (found p) (found q) node link p.level.at → IsWithinLimit q → StandsButKernels first second → between ≤ after
      → IsLinkUnderWay tokens old q graph second before after begin (node + 1) link
  link_way_more q second after step walked within stands back =
      let stood = stands_join graph first second way.stands stands in
      let later : IsSoundParser graph.grammar.rules tokens q = subst (λ (gr : Grammar). IsSoundParser gr.rules tokens q) stood.grammar step.sound in
      let by_rules : IsNodeWalked graph.grammar.rules (found p) (found q) node link p.level.at =
      subst (λ (gr : Grammar). IsNodeWalked gr.rules (found p) (found q) node link p.level.at) way.stands.grammar walked in
      let by_level : IsNodeWalked graph.grammar.rules (found p) (found q) node link old.level.at =
      subst (λ (lv : Level). IsNodeWalked graph.grammar.rules (found p) (found q) node link lv.at) way.step.level by_rules in
      record {
        step = step_on tokens old p q graph first second before between after way.step step;
        stands = stood;
        back = omega (arith, way.back, back);
        within = within;
        walked = nodes_walked_next graph.grammar.rules tokens now.numbered (found old) (found p) sound.graph now.graph way.step.grows link old.level.at
            (found q)
            later.graph step.grows link_still.is begin node way.walked by_level;
      }

  pub link_way_all : begin ≡ old.level.first_node → node ≡ nodes → nodes ≡ length old.stacks.nodes → IsWorked graph.grammar.rules (found old) link nodes
      → IsWorked graph.grammar.rules (found p) (link + 1) nodes
  link_way_all first_is all all_nodes worked =
      let walked : AreNodesWalked graph.grammar.rules (found old) (found p) old.level.first_node nodes link old.level.at =
      subst (λ n. AreNodesWalked graph.grammar.rules (found old) (found p) n nodes link old.level.at) first_is
      (subst (λ n. AreNodesWalked graph.grammar.rules (found old) (found p) begin n link old.level.at) all way.walked) in
      let one_more : suc link ≡ link + 1 = omega arith in
      subst (λ n. IsWorked graph.grammar.rules (found p) n nodes) one_more
      (link_worked graph.grammar.rules tokens old sound (found p) now.graph way.step.grows link nodes worked all_nodes of_level walked)

-- ---- the upper end alone

module _ {Base : Type 0} (tokens : List SymbolId) (p : Parser) (graph : GraphMeaning Base) (link nodes : ℕ) (edge : Edge)
    (sound : IsSoundParser graph.grammar.rules tokens p) (of_level : IsOfLevel (found p) p.level.first_link link)
    (there : slice_get p.stacks.links link ≡ Some edge) where
  pub upper_within : edge.upper < length p.stacks.nodes
  upper_within =
      let b = between graph.grammar.rules tokens (found p) sound.graph link {upper = edge.upper} {x = edge.symbol} {lower = edge.lower}
      {label = edge.label} there in
      node_below b.upper_is

  pub upper_worked : (q : Parser) (second : GraphMeaning Base) (before after : ℕ) → IsStep tokens p q graph second before after → StandsButKernels graph second
      → IsTrue p.is_flat → nodes ≡ length p.stacks.nodes → IsWorked graph.grammar.rules (found p) link nodes
      → IsNodeWalked graph.grammar.rules (found p) (found q) edge.upper link p.level.at → IsWorked graph.grammar.rules (found q) (link + 1) nodes
  upper_worked q second before after step stands is_flat all_nodes worked walked =
      let later : IsSoundParser graph.grammar.rules tokens q = subst (λ (gr : Grammar). IsSoundParser gr.rules tokens q) stands.grammar step.sound in
      let one_more : suc link ≡ link + 1 = omega arith in
      subst (λ n. IsWorked graph.grammar.rules (found q) n nodes) one_more
      (link_worked_flat graph.grammar.rules tokens p sound (found q) later.graph step.grows link nodes worked all_nodes of_level is_flat edge there walked)
