-- The empty rules of a node are reduced one after the other.
use Rattle.std.proofs.Common.{◌≡◌, ℕ, suc, ◌+◌, ◌<◌, ◌≤◌, ◌⊎◌, inl, inr, List, [], length, reverse, Contains, slice_get, slice_index_or, Some}
use Rattle.std.proofs.Common.{refl, sym, ◌∙◌, ap, subst, arith}
use Rattle.std.proofs.lemmas.Bool.{cases_lt}
use Rattle.std.proofs.lemmas.Option.{slice_get_within, slice_get-get_or}
use Rattle.forest.specs.declared.symbols.SymbolId.{SymbolId}
use Rattle.edit_log.specs.History.{Grammar}
use Rattle.item_sets.specs.declared.item.Item.{Item}
use Rattle.item_sets.proofs.Chains.{at_below}
use Rattle.gss.specs.declared.stack_graph.Place.{Place}
use Rattle.gss.specs.PlaceGraphs.{place_with}
use Rattle.live_graph.specs.Meaning.{GraphMeaning}
use Rattle.packed_spans.specs.Packed.{PackedSplit}
use Rattle.packed_spans.proofs.Lists.{contains_at, at_contained}
use Rattle.parser_states.specs.declared.reduction.Reduction.{Reduction}
use Rattle.parser_states.specs.Reductions.{ListsReductions}
use Rattle.parser_states.specs.Expanded.{OfState}
use Rattle.gss.specs.Trails.{Standing}
use Rattle.parser_states.specs.Asked.{StandsButKernels}
use Rattle.parser_states.proofs.AskedKernels.{stands_same, stands_join}
use Rattle.rekers.specs.declared.parser.Parser.{Parser}
use Rattle.rekers.specs.declared.level.Level.{Level}
use Rattle.rekers.specs.Found.{found, IsNode}
use Rattle.rekers.specs.Reductions.{IsReducible, IsReduced, IsFoundAlong, IsWorked}
use Rattle.rekers.specs.Sound.{IsSoundParser}
use Rattle.rekers.specs.Steps.{IsStep, IsWithinLimit, IsToReduce, Reduces, trail_of}
use Rattle.rekers.proofs.Growth.{one_at, one_kernel, kernel_at, node_grows, told_grows}
use Rattle.rekers.proofs.Walks.{partial_left, reduced_on, told_back}
use Rattle.rekers.proofs.Stepping.{step_none, step_on}
use Rattle.rekers.proofs.StartedWalks.{sound_walk, within_walk}
use Rattle.rekers.proofs.Worked.{worked_node}
use Rattle.rekers.proofs.EmptyRules.{one_listing, other_rule, along_none, listed_reducible, reducible_listed}

-- the reductions of the node by empty rules that stand before this number are made
pub record HasEmptied {Base : Type 0} (tokens : List SymbolId) (old new : Parser) (graph graph' : GraphMeaning Base) (before after node past : ℕ) : Type 0 where
  pub step : IsStep tokens old new graph graph' before after
  pub within : IsWithinLimit new
  pub stands : StandsButKernels graph graph'
  pub never_back : before ≤ after
  pub trail : new.trails.trail ≡ []
  pub kernel : List Item
  pub node_is : IsNode (found old) node kernel old.level.at
  pub reductions : List Reduction
  pub lists : ListsReductions graph.grammar.rules kernel (λ size. size ≡ 0) reductions
  pub made : (n : ℕ) (r : Reduction) → n < past → slice_get reductions n ≡ Some r → IsReduced (found new) r node [] old.level.at
  pub only : (split : PackedSplit) → Contains new.spans.splits split → Contains old.spans.splits split
      ⊎ (IsFoundAlong graph.grammar.rules (found new) split [] node × (n : ℕ) × (r : Reduction) × (n < past) × (slice_get reductions n ≡ Some r)
      × (r.rule ≡ split.rule))

-- the list is that of the empty reductions of the state
abbrev pub AreEmpties : Parser → (state : ℕ) → List Reduction → Type 0
AreEmpties parser state list = OfState parser.states state (λ rules kernel. ListsReductions rules kernel (λ size. size ≡ 0) list)

pub none_emptied : {Base : Type 0} (tokens : List SymbolId) (p : Parser) (at : Standing) (graph : GraphMeaning Base) (steps node : ℕ) (place : Place)
    (list : List Reduction) → IsSoundParser graph.grammar.rules tokens p → IsWithinLimit p → at.trail ≡ [] → p.level.first_node ≤ node
    → slice_get p.stacks.nodes node ≡ Some place → AreEmpties p place.state list
    → HasEmptied tokens p (record p { trails = at }) graph graph steps steps node 0
none_emptied tokens p at graph steps node place list sound within none of_level there empties =
    let rules = graph.grammar.rules in
    let (kernel, named, reached) = sound.graph.nodes node place there in
    let level = sound.level.nodes_here node place there of_level in
    let step = step_none tokens p graph steps sound in
    record {
      step = record { sound = sound_walk rules tokens p at sound; grows = step.grows; placed = step.placed; level = step.level; asks = step.asks };
      within = within_walk p at within;
      stands = stands_same graph;
      never_back = omega arith;
      trail = none;
      kernel = kernel;
      node_is = record {
        state = place.state;
        there = subst (λ i. slice_get p.stacks.nodes node ≡ Some (place_with place.state i)) level there;
        is_kernel = named;
      };
      reductions = list;
      lists = empties rules kernel sound.expanded named;
      made = λ n r less e. absurd (omega (arith, less));
      only = λ split c. inl c;
    }

module _ {Base : Type 0} (tokens : List SymbolId) (p q : Parser) (graph graph' : GraphMeaning Base) (before between node past : ℕ)
    (sound : IsSoundParser graph.grammar.rules tokens p) (so_far : HasEmptied tokens p q graph graph' before between node past) where
  now : IsSoundParser graph.grammar.rules tokens q
  now = subst (λ (gr : Grammar). IsSoundParser gr.rules tokens q) so_far.stands.grammar so_far.step.sound

  node_now : IsNode (found q) node so_far.kernel p.level.at
  node_now = node_grows (found p) (found q) so_far.step.grows so_far.node_is

  -- the list that is read is the same one, at first and again
  same_first : (place : Place) (list : List Reduction) → slice_get p.stacks.nodes node ≡ Some place → AreEmpties p place.state list → list ≡ so_far.reductions
  same_first place list there empties =
      one_listing graph.grammar.rules so_far.kernel (λ size. size ≡ 0) list so_far.reductions
      (empties graph.grammar.rules so_far.kernel sound.expanded (kernel_at so_far.node_is there).0) so_far.lists

  named : (place : Place) → slice_get p.stacks.nodes node ≡ Some place → slice_get q.states.kernels place.state ≡ Some so_far.kernel
  named place there = so_far.step.grows.kernels place.state so_far.kernel (kernel_at so_far.node_is there).0

  same_again : (place : Place) (list : List Reduction) → slice_get p.stacks.nodes node ≡ Some place → AreEmpties q place.state list → list ≡ so_far.reductions
  same_again place list there empties =
      one_listing graph.grammar.rules so_far.kernel (λ size. size ≡ 0) list so_far.reductions
      (empties graph.grammar.rules so_far.kernel now.expanded (named place there)) so_far.lists

  pub state_inside : (place : Place) → slice_get p.stacks.nodes node ≡ Some place → place.state < length q.states.kernels
  state_inside place there = slice_get_within q.states.kernels place.state so_far.kernel (named place there)

  pub still_inside : (place : Place) (list again : List Reduction) → slice_get p.stacks.nodes node ≡ Some place → AreEmpties p place.state list
      → AreEmpties q place.state again → past < length list → past < length again
  still_inside place list again there empties empties' less =
      omega (arith, less, ap length (same_first place list there empties), ap length (same_again place again there empties'))

  pub none_behind : (place : Place) (list : List Reduction) → slice_get p.stacks.nodes node ≡ Some place → AreEmpties p place.state list
      → length list ≤ past → length so_far.reductions ≤ past
  none_behind place list there empties most = omega (arith, most, ap length (same_first place list there empties))

  -- what is read at the place
  pub read_at : (place : Place) (list : List Reduction) → slice_get p.stacks.nodes node ≡ Some place → AreEmpties q place.state list → past < length list
      → (other : Reduction) → slice_get so_far.reductions past ≡ Some (slice_index_or list past other)
  read_at place list there empties less other =
      subst (λ rs. slice_get rs past ≡ Some (slice_index_or list past other)) (same_again place list there empties) (slice_get-get_or list past other less)

  reducible : (r : Reduction) (n : ℕ) → slice_get so_far.reductions n ≡ Some r → IsReducible graph.grammar.rules (found q) r node [] [] node p.level.at
  reducible r n there = listed_reducible graph.grammar.rules sound.numbered (found q) node p.level.at so_far.kernel node_now so_far.reductions so_far.lists r
      (contains_at so_far.reductions n r there)

  -- the next reduction is to be made
  pub next_empty : (links : ℕ) → IsWorked graph.grammar.rules (found p) links node → (r : Reduction) → slice_get so_far.reductions past ≡ Some r
      → IsToReduce graph'.grammar.rules (found q) r node (trail_of q) node q.level.at
  next_empty links worked r there =
      let fresh : IsToReduce graph.grammar.rules (found q) r node [] node p.level.at = record {
        labels = [];
        reducible = reducible r past there;
        untold = λ split c number told. elim (so_far.only split c) [
          | inl in_old ↦
              let was = told_back graph.grammar.rules tokens (found p) (found q) sound.graph so_far.step.grows sound.numbered now.graph split [] node in_old
              told in
              let below : node < node = worked.only split [] node in_old was in
              omega (arith, below)
          | inr (is, n, s, less, at, same) ↦ other_rule so_far.reductions so_far.lists.ascends n past s r less at there (same ∙ number)
        ];
      } in
      let leveled = subst (λ (l : Level). IsToReduce graph.grammar.rules (found q) r node [] node l.at) (sym so_far.step.level) fresh in
      let trailed = subst (λ ts. IsToReduce graph.grammar.rules (found q) r node (reverse ts) node q.level.at) (sym so_far.trail) leveled in
      subst (λ (gr : Grammar). IsToReduce gr.rules (found q) r node (trail_of q) node q.level.at) (sym so_far.stands.grammar) trailed

  -- it is made
  pub emptied_more : (r : Reduction) → slice_get so_far.reductions past ≡ Some r → (t : Parser) (graph'' : GraphMeaning Base) (after : ℕ)
      → IsStep tokens q t graph' graph'' between after → Reduces graph'.grammar.rules (found q) (found t) r node (trail_of q) node q.level.at
      → IsWithinLimit t → t.trails ≡ q.trails → StandsButKernels graph' graph'' → between ≤ after
      → HasEmptied tokens p t graph graph'' before after node (past + 1)
  emptied_more r there t graph'' after step reduces within trails stands never_back =
      let by_rules = subst (λ (gr : Grammar). Reduces gr.rules (found q) (found t) r node (trail_of q) node q.level.at) so_far.stands.grammar reduces in
      let by_trail = subst (λ ts. Reduces graph.grammar.rules (found q) (found t) r node (reverse ts) node q.level.at) so_far.trail by_rules in
      let by_level : Reduces graph.grammar.rules (found q) (found t) r node [] node p.level.at =
      subst (λ (l : Level). Reduces graph.grammar.rules (found q) (found t) r node [] node l.at) so_far.step.level by_trail in
      record {
        step = step_on tokens p q t graph graph' graph'' before between after so_far.step step;
        within = within;
        stands = stands_join graph graph' graph'' so_far.stands stands;
        never_back = let n = so_far.never_back in omega (arith, n, never_back);
        trail = ap (λ (s : Standing). s.trail) trails ∙ so_far.trail;
        kernel = so_far.kernel;
        node_is = so_far.node_is;
        reductions = so_far.reductions;
        lists = so_far.lists;
        made = λ n s less at. elim (cases_lt n past) [
          | inl earlier ↦
              reduced_on graph.grammar.rules tokens (found q) (found t) now.graph step.grows (partial_left (reducible s n at)) (so_far.made n s earlier at)
          | inr not ↦
              let same : n ≡ past = omega (arith, less, not) in
              let is : s ≡ r = one_at so_far.reductions past s r (subst (λ m. slice_get so_far.reductions m ≡ Some s) same at) there in
              subst (λ one. IsReduced (found t) one node [] p.level.at) (sym is) (by_level.made [] (reducible r past there))
        ];
        only = λ split c. elim (by_level.only split c) [
          | inl in_q ↦ elim (so_far.only split in_q) [
            | inl in_p ↦ inl in_p
            | inr (told, n, s, less, at, same) ↦ inr (told_grows (found q) (found t) step.grows told, n, s, omega (arith, less), at, same)
          ]
          | inr (number, told) ↦ inr (told, past, r, omega arith, there, sym number)
        ];
      }

  -- all of them are made
  pub emptied_all : (links : ℕ) → IsWorked graph.grammar.rules (found p) links node → links ≤ length p.stacks.links → node < length p.stacks.nodes
      → length so_far.reductions ≤ past → IsWorked graph.grammar.rules (found q) links (node + 1)
  emptied_all links worked few inside all =
      let next : suc node ≡ node + 1 = omega arith in
      subst (λ n. IsWorked graph.grammar.rules (found q) links n) next (
      worked_node graph.grammar.rules tokens sound.numbered (found p) (found q) sound.graph now.graph so_far.step.grows links node few
      (λ other less.
      let (place, there) = at_below p.stacks.nodes other (omega (arith, less, inside)) in
      let (kernel, named, reached) = sound.graph.nodes other place there in
      (kernel, place.at, record { state = place.state; there = there; is_kernel = named }))
      worked
      (λ r lower labels at is.
      let c = reducible_listed graph.grammar.rules sound.numbered (found q) node p.level.at so_far.kernel node_now so_far.reductions so_far.lists r lower
      labels at is in
      let done = so_far.made c.0 r (omega (arith, c.1, all)) (at_contained so_far.reductions r c) in
      let (begin, none) = along_none is.along refl in
      let (same, place) = one_kernel is.top_is node_now in
      let placed : IsReduced (found q) r node [] at = subst (λ i. IsReduced (found q) r node [] i) (sym place) done in
      let begun : IsReduced (found q) r lower [] at = subst (λ n. IsReduced (found q) r n [] at) (sym begin) placed in
      subst (λ ls. IsReduced (found q) r lower ls at) (sym none) begun)
      (λ split c. elim (so_far.only split c) [ inl in_p ↦ inl in_p | inr (told, n, r, less, at, same) ↦ inr told ]))
