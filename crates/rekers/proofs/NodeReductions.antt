-- The reductions of a node along trails through a link, one after the other in the order of their state.
use Rattle.std.proofs.Common.{◌≡◌, ℕ, zero, suc, ◌+◌, ◌<◌, ◌≤◌, ◌⊎◌, inl, inr, List, [], ◌∷◌, length, drop, Contains, slice_get, Some}
use Rattle.std.proofs.Common.{refl, sym, ◌∙◌, ap, subst, arith}
use Rattle.std.specs.List.Sorted.{IsStrictlySortedBy}
use Rattle.std.specs.declared.cmp.Ordering.TheVariants.{Less}
use Rattle.std.proofs.lemmas.Bool.{cases_lt}
use Rattle.std.proofs.lemmas.Option.{slice_get_within, slice_get_read}
use Rattle.forest.specs.declared.symbols.SymbolId.{SymbolId}
use Rattle.forest.specs.declared.rules.RuleId.{RuleId}
use Rattle.forest.specs.declared.rules.Rule.{Rule}
use Rattle.forest.proofs.Ascending.{contains_here, contains_there, contains_cases}
use Rattle.edit_log.specs.History.{Grammar}
use Rattle.edit_log.proofs.PlainLists.{each_contained, contains_at, nat_cmp_less}
use Rattle.item_sets.specs.declared.item.Item.{Item}
use Rattle.item_sets.specs.Prefixes.{item_at, live}
use Rattle.item_sets.specs.Expansions.{InClosure}
use Rattle.item_sets.proofs.Numbering.{IsNumbered, one_right}
use Rattle.item_sets.proofs.Chains.{at_below}
use Rattle.live_graph.specs.Meaning.{GraphMeaning}
use Rattle.gss.specs.declared.stack_graph.Place.{Place}
use Rattle.gss.specs.PlaceGraphs.{place_with}
use Rattle.packed_spans.specs.Packed.{PackedSplit}
use Rattle.parser_states.specs.declared.reduction.Reduction.{Reduction}
use Rattle.parser_states.specs.Asked.{StandsButKernels}
use Rattle.parser_states.specs.Expanded.{OfState}
use Rattle.parser_states.specs.Reductions.{number_cmp, ListsReductions, IsReductionIn}
use Rattle.parser_states.proofs.AskedKernels.{stands_same, stands_join}
use Rattle.rekers.specs.declared.parser.Parser.{Parser}
use Rattle.rekers.specs.declared.level.Level.{Level}
use Rattle.rekers.specs.declared.walk.Walk.{Walk}
use Rattle.rekers.specs.Found.{Findings, found, IsNode, Grows, IsTrail, here}
use Rattle.rekers.specs.Sound.{IsSoundParser, IsSoundGraph}
use Rattle.rekers.specs.Starts.{IsTop}
use Rattle.rekers.specs.Steps.{IsFoundOn, IsFresh, IsWalked, IsAnyFresh, IsNodeWalked, IsStep, IsWithinLimit, IsOfLevel}
use Rattle.rekers.proofs.Growth.{one_at, one_kernel, node_grows}
use Rattle.rekers.proofs.Walks.{trail_size, told_back}
use Rattle.rekers.proofs.WalkedTrails.{AreMade, found_grows, made_on}
use Rattle.rekers.proofs.Stepping.{step_none, step_on}

-- ---- the reductions of a state

asymmetric : (a b : Reduction) → number_cmp a b ≡ Less → number_cmp b a ≡ Less → ⊥
asymmetric a b e f = omega (arith, nat_cmp_less a.rule.0 b.rule.0 e, nat_cmp_less b.rule.0 a.rule.0 f)

-- a list by ascending numbers is known by its elements
same_list : (xs ys : List Reduction) → IsStrictlySortedBy number_cmp xs → IsStrictlySortedBy number_cmp ys → ((x : Reduction) → Contains xs x → Contains ys x)
    → ((x : Reduction) → Contains ys x → Contains xs x) → xs ≡ ys
unfolding IsStrictlySortedBy
same_list [] [] a b f g = refl
same_list [] (y ∷ ys) a b f g = let c : Contains [] y = g y (contains_here y ys) in absurd (omega (arith, c.1))
same_list (x ∷ xs) [] a b f g = let c : Contains [] x = f x (contains_here x xs) in absurd (omega (arith, c.1))
same_list (x ∷ xs) (y ∷ ys) a b f g =
    let heads : x ≡ y = elim (contains_cases y ys x (f x (contains_here x xs))) [
      | inl e ↦ sym e
      | inr c ↦ elim (contains_cases x xs y (g y (contains_here y ys))) [
        | inl e ↦ e
        | inr d ↦ absurd (asymmetric x y (each_contained (λ z. number_cmp x z ≡ Less) xs y a.0 d) (each_contained (λ z. number_cmp y z ≡ Less) ys x b.0 c))
      ]
    ] in
    let tails : xs ≡ ys = same_list xs ys a.1 b.1
    (λ z c. elim (contains_cases y ys z (f z (contains_there x xs z c))) [
      | inl e ↦
          let less : number_cmp x x ≡ Less = subst (λ w. number_cmp x w ≡ Less) (sym (heads ∙ e)) (each_contained (λ z. number_cmp x z ≡ Less) xs z a.0 c) in
          absurd (asymmetric x x less less)
      | inr d ↦ d
    ])
    (λ z c. elim (contains_cases x xs z (g z (contains_there y ys z c))) [
      | inl e ↦
          let less : number_cmp y y ≡ Less = subst (λ w. number_cmp y w ≡ Less) (sym (sym heads ∙ e))
          (each_contained (λ z. number_cmp y z ≡ Less) ys z b.0 c) in
          absurd (asymmetric y y less less)
      | inr d ↦ d
    ]) in
    ap (λ z. z ∷ xs) heads ∙ ap (λ zs. y ∷ zs) tails

-- of two reductions in the list the earlier one has the lower number
earlier : (xs : List Reduction) (a b : ℕ) (r s : Reduction) → IsStrictlySortedBy number_cmp xs → slice_get xs a ≡ Some r → slice_get xs b ≡ Some s → a < b
    → number_cmp r s ≡ Less
unfolding IsStrictlySortedBy
earlier [] a b r s sorted e f l = absurd cc
earlier (x ∷ xs) a zero r s sorted e f l = absurd (omega (arith, l))
earlier (x ∷ xs) zero (suc b) r s sorted e f l =
    let same : x ≡ r = cc in
    subst (λ z. number_cmp z s ≡ Less) same (each_contained (λ z. number_cmp x z ≡ Less) xs s sorted.0 (contains_at xs b s f))
earlier (x ∷ xs) (suc a) (suc b) r s sorted e f l = earlier xs a b r s sorted.1 e f (omega (arith, l))

-- the same reductions are one list
pub one_list : (rules : List Rule) (kernel : List Item) (xs ys : List Reduction) → ListsReductions rules kernel (λ size. 0 < size) xs
    → ListsReductions rules kernel (λ size. 0 < size) ys → xs ≡ ys
one_list rules kernel xs ys a b =
    same_list xs ys a.ascends b.ascends (λ x c. (b.members x).1 ((a.members x).0 c)) (λ x c. (a.members x).1 ((b.members x).0 c))

-- ---- the reductions before one place

abbrev pub walk_of : Reduction → ℕ → ℕ → Walk
walk_of reduction top through = record { reduction = reduction; top = top; through = through }

-- the reductions in the list before the place are made along all trails through the link, and no other splits are new
pub record AreWalked (rules : List Rule) (old new : Findings) (top through at : ℕ) (list : List Reduction) (count : ℕ) : Type 0 where
  pub all : (place : ℕ) (reduction : Reduction) → place < count → slice_get list place ≡ Some reduction → AreMade rules new (walk_of reduction top through) at
  pub only : (split : PackedSplit) → Contains new.splits split
      → Contains old.splits split ⊎ ((place : ℕ) × (reduction : Reduction) × (place < count) × (slice_get list place ≡ Some reduction)
      × IsFoundOn rules new (walk_of reduction top through) split)

pub are_walked_none : (rules : List Rule) (f : Findings) (top through at : ℕ) (list : List Reduction) → AreWalked rules f f top through at list 0
are_walked_none rules f top through at list = record { all = λ place reduction l. absurd (omega (arith, l)); only = λ split c. inl c }

module _ (rules : List Rule) (tokens : List SymbolId) (numbers : IsNumbered rules) (old f : Findings) (graph : IsSoundGraph rules tokens old)
    (graph' : IsSoundGraph rules tokens f) (grows : Grows old f) (top through at : ℕ) (list : List Reduction) (count : ℕ) (reduction : Reduction)
    (is : slice_get list count ≡ Some reduction) (walked : AreWalked rules old f top through at list count) where
  -- no split was found by the next reduction
  pub next_fresh : IsStrictlySortedBy number_cmp list → IsAnyFresh rules old top through → IsFresh rules f (walk_of reduction top through)
  next_fresh sorted fresh split c on = elim (walked.only split c) [
    | inl in_old ↦ fresh split on.trail in_old (told_back rules tokens old f graph grows numbers graph' split on.trail top in_old on.told) on.through
    | inr (place, other, before, there, was) ↦
        let less = nat_cmp_less other.rule.0 reduction.rule.0 (earlier list place count other reduction sorted there is before) in
        let same : other.rule.0 ≡ reduction.rule.0 = ap (λ (n : RuleId). n.0) (sym was.number ∙ on.number) in
        omega (arith, less, same)
  ]

  -- the next reduction is made too
  pub walked_next : (g : Findings) → IsSoundGraph rules tokens g → Grows f g → through < length f.links → {w : List Item} {i : ℕ} → IsNode f top w i
      → IsWalked rules f g (walk_of reduction top through) at → AreWalked rules old g top through at list (count + 1)
  walked_next g graph'' grows' below n more = record {
    all = λ place other before there. elim (cases_lt place count) [
      | inl less ↦ made_on rules tokens f g graph' grows' (walk_of other top through) at below n (walked.all place other less there)
      | inr not ↦
          let place_is : place ≡ count = omega (arith, before, not) in
          let same : other ≡ reduction = one_at list count other reduction (subst (λ n. slice_get list n ≡ Some other) place_is there) is in
          subst (λ r. AreMade rules g (walk_of r top through) at) (sym same) more.all
    ];
    only = λ split c. elim (more.only split c) [
      | inl in_f ↦ elim (walked.only split in_f) [
        | inl in_old ↦ inl in_old
        | inr (place, other, before, there, on) ↦ inr (place, other, omega (arith, before), there, found_grows f g grows' on)
      ]
      | inr on ↦ inr (count, reduction, omega arith, is, on)
    ];
  }

-- all reductions of the node's state are made
pub walked_node : (rules : List Rule) (old g : Findings) (top through at : ℕ) (kernel : List Item) (list : List Reduction) (count : ℕ) → IsNode g top kernel at
    → ListsReductions rules kernel (λ size. 0 < size) list → length list ≡ count → AreWalked rules old g top through at list count
    → IsNodeWalked rules old g top through at
walked_node rules old g top through at kernel list count node lists size walked = record {
  all = λ reduction lower trail labels p by.
      let same : p.upper ≡ kernel = (one_kernel p.top_is node).0 in
      let (k, l, e) = by.has in
      let is : IsReductionIn rules kernel (λ size. 0 < size) reduction = record {
        rule = p.rule;
        live = p.live;
        finished = (
          p.rule.right,
          live p.live,
          subst (λ ks. InClosure rules (Contains ks) (item_at p.rule.number (length p.rule.right))) same p.finished,
        );
        wanted = omega (arith, l, trail_size p.along);
        made = p.made;
      } in
      let (place, within, has) = (lists.members reduction).1 is in
      walked.all place reduction (omega (arith, within, size)) (slice_get_read list (length list) place reduction refl within (sym has))
      lower trail labels p by;
  only = λ split c. elim (walked.only split c) [
    | inl in_old ↦ inl in_old
    | inr (place, reduction, before, there, on) ↦ inr (on.trail, on.told, on.through)
  ];
}

-- a walk of a reduction of the node's state begins at the node
pub top_of : (rules : List Rule) → IsNumbered rules → (f : Findings) (reduction : Reduction) (top through at : ℕ) (kernel : List Item) (list : List Reduction)
    → IsNode f top kernel at → ListsReductions rules kernel (λ size. 0 < size) list → Contains list reduction → IsTop rules f (walk_of reduction top through) at
top_of rules numbers f reduction top through at kernel list node lists c =
    let is = (lists.members reduction).0 c in
    let (right, has, finished) = is.finished in
    let same : right ≡ is.rule.right = (one_right rules numbers).one is.rule.number right is.rule.right has (live is.live) in
    let whole : InClosure rules (Contains kernel) (item_at is.rule.number (length is.rule.right)) =
    subst (λ xs. InClosure rules (Contains kernel) (item_at is.rule.number (length xs))) same finished in
    let size : length is.rule.right ≡ reduction.length = ap (λ (r : Reduction). r.length) is.made in
    let nothing : drop reduction.length is.rule.right ≡ [] = subst (λ n. drop n is.rule.right ≡ []) size (drop_whole is.rule.right) in
    record {
      partial = record {
        rule = is.rule;
        live = is.live;
        made = is.made;
        upper = kernel;
        top_is = node;
        finished = whole;
        within = omega (arith, size);
        along = subst (λ xs. IsTrail f.links top [] xs [] top) (sym nothing) here;
        kernel = kernel;
        from = at;
        node_is = node;
        dotted = subst (λ n. InClosure rules (Contains kernel) (item_at is.rule.number n)) size whole;
      };
      some = omega (arith, size, is.wanted);
    }
  where
    drop_whole : (xs : List SymbolId) → drop (length xs) xs ≡ []
    drop_whole [] = refl
    drop_whole (x ∷ xs) = drop_whole xs

-- ---- the loop over the reductions

-- The parser has made so many of the node's reductions.
pub record IsNodeUnderWay {Base : Type 0} (tokens : List SymbolId) (old new : Parser) (graph graph' : GraphMeaning Base) (before after : ℕ)
    (node link state size count : ℕ) : Type 0 where
  pub step : IsStep tokens old new graph graph' before after
  pub stands : StandsButKernels graph graph'
  pub back : before ≤ after
  pub within : IsWithinLimit new
  pub kernel : List Item
  pub node_is : IsNode (found old) node kernel old.level.at
  pub state_is : state ≡ node_is.state
  pub list : List Reduction
  pub lists : ListsReductions graph.grammar.rules kernel (λ size. 0 < size) list
  pub length_is : length list ≡ size
  pub walked : AreWalked graph.grammar.rules (found old) (found new) node link old.level.at list count

-- a node of the level has a kernel
pub node_of_level : (rules : List Rule) (tokens : List SymbolId) (p : Parser) → IsSoundParser rules tokens p → (node : ℕ) (place : Place)
    → slice_get p.stacks.nodes node ≡ Some place → p.level.first_node ≤ node → (kernel : List Item) × IsNode (found p) node kernel p.level.at
    × (slice_get p.states.kernels place.state ≡ Some kernel)
node_of_level rules tokens p sound node place there of_level =
    let (kernel, is, reached) = sound.graph.nodes node place there in
    let at : place.at ≡ p.level.at = sound.level.nodes_here node place there of_level in
    (kernel, record { state = place.state; there = subst (λ n. slice_get p.stacks.nodes node ≡ Some (place_with place.state n)) at there; is_kernel = is }, is)

module _ {Base : Type 0} (tokens : List SymbolId) (p : Parser) (graph : GraphMeaning Base) (steps : ℕ) (node link : ℕ) (place : Place)
    (sound : IsSoundParser graph.grammar.rules tokens p) (there : slice_get p.stacks.nodes node ≡ Some place) where
  pub state_within : place.state < length p.states.kernels
  state_within = let (kernel, is, reached) = sound.graph.nodes node place there in slice_get_within p.states.kernels place.state kernel is

  pub under_way_none : (list : List Reduction) (size : ℕ) → p.level.first_node ≤ node → IsWithinLimit p
      → OfState p.states place.state (λ rules kernel. ListsReductions rules kernel (λ size. 0 < size) list) → size ≡ length list
      → IsNodeUnderWay tokens p p graph graph steps steps node link place.state size 0
  under_way_none list size of_level within of_state size_is =
      let (kernel, node_is, is) = node_of_level graph.grammar.rules tokens p sound node place there of_level in
      let same = one_state kernel node_is in
      record {
        step = step_none tokens p graph steps sound;
        stands = stands_same graph;
        back = omega arith;
        within = within;
        kernel = kernel;
        node_is = node_is;
        state_is = same;
        list = list;
        lists = of_state graph.grammar.rules kernel sound.expanded is;
        length_is = sym size_is;
        walked = are_walked_none graph.grammar.rules (found p) node link p.level.at list;
      }
    where
      one_state : (kernel : List Item) (n : IsNode (found p) node kernel p.level.at) → place.state ≡ n.state
      one_state kernel n = ap (λ (q : Place). q.state) (one_at p.stacks.nodes node place _ there n.there)

module _ {Base : Type 0} (tokens : List SymbolId) (old p : Parser) (graph first : GraphMeaning Base) (before between : ℕ) (node link state size count : ℕ)
    (sound : IsSoundParser graph.grammar.rules tokens old) (of_level : IsOfLevel (found old) old.level.first_link link)
    (way : IsNodeUnderWay tokens old p graph first before between node link state size count) where
  now : IsSoundParser graph.grammar.rules tokens p
  now = subst (λ (gr : Grammar). IsSoundParser gr.rules tokens p) way.stands.grammar way.step.sound

  now_node : IsNode (found p) node way.kernel old.level.at
  now_node = node_grows (found old) (found p) way.step.grows way.node_is

  state_kernel : slice_get p.states.kernels state ≡ Some way.kernel
  state_kernel = way.step.grows.kernels state way.kernel
      (subst (λ n. slice_get old.states.kernels n ≡ Some way.kernel) (sym way.state_is) way.node_is.is_kernel)

  pub state_still : state < length p.states.kernels
  state_still = slice_get_within p.states.kernels state way.kernel state_kernel

  pub next_link : IsOfLevel (found p) p.level.first_link link
  next_link =
      let (edge, at) = at_below old.stacks.links link of_level.is in
      record {
        is = slice_get_within p.stacks.links link edge (way.step.grows.links link edge at);
        of_level = subst (λ (lv : Level). lv.first_link ≤ link) (sym way.step.level) of_level.of_level;
      }

  -- the state tells the same reductions
  module _ (list : List Reduction) (of_state : OfState p.states state (λ rules kernel. ListsReductions rules kernel (λ size. 0 < size) list)) where
    same_reductions : list ≡ way.list
    same_reductions = one_list graph.grammar.rules way.kernel list way.list (of_state graph.grammar.rules way.kernel now.expanded state_kernel) way.lists

    pub more_reductions : count < size → count < length list
    more_reductions less = omega (arith, less, way.length_is, ap length same_reductions)

    module _ (reduction : Reduction) (is : slice_get list count ≡ Some reduction) where
      there : slice_get way.list count ≡ Some reduction
      there = subst (λ xs. slice_get xs count ≡ Some reduction) same_reductions is

      pub next_top : IsTop first.grammar.rules (found p) (walk_of reduction node link) p.level.at
      next_top =
          let top = top_of graph.grammar.rules now.numbered (found p) reduction node link old.level.at way.kernel way.list now_node way.lists
          (contains_at way.list count reduction there) in
          subst (λ (gr : Grammar). IsTop gr.rules (found p) (walk_of reduction node link) p.level.at) (sym way.stands.grammar)
          (subst (λ (lv : Level). IsTop graph.grammar.rules (found p) (walk_of reduction node link) lv.at) (sym way.step.level) top)

      pub next_is_fresh : IsAnyFresh graph.grammar.rules (found old) node link → IsFresh first.grammar.rules (found p) (walk_of reduction node link)
      next_is_fresh fresh =
          subst (λ (gr : Grammar). IsFresh gr.rules (found p) (walk_of reduction node link)) (sym way.stands.grammar)
          (next_fresh graph.grammar.rules tokens now.numbered (found old) (found p) sound.graph now.graph way.step.grows node link old.level.at way.list
          count reduction there way.walked way.lists.ascends fresh)

      pub under_way_more : (q : Parser) (second : GraphMeaning Base) (after : ℕ) → IsStep tokens p q first second between after
          → IsWalked first.grammar.rules (found p) (found q) (walk_of reduction node link) p.level.at → IsWithinLimit q → StandsButKernels first second
          → between ≤ after
          → IsNodeUnderWay tokens old q graph second before after node link state size (count + 1)
      under_way_more q second after step walked within stands back =
          let both = step_on tokens old p q graph first second before between after way.step step in
          let stood = stands_join graph first second way.stands stands in
          let later : IsSoundParser graph.grammar.rules tokens q = subst (λ (gr : Grammar). IsSoundParser gr.rules tokens q) stood.grammar step.sound in
          let by_rules : IsWalked graph.grammar.rules (found p) (found q) (walk_of reduction node link) p.level.at =
          subst (λ (gr : Grammar). IsWalked gr.rules (found p) (found q) (walk_of reduction node link) p.level.at) way.stands.grammar walked in
          let by_level : IsWalked graph.grammar.rules (found p) (found q) (walk_of reduction node link) old.level.at =
          subst (λ (lv : Level). IsWalked graph.grammar.rules (found p) (found q) (walk_of reduction node link) lv.at) way.step.level by_rules in
          record {
            step = both;
            stands = stood;
            back = omega (arith, way.back, back);
            within = within;
            kernel = way.kernel;
            node_is = way.node_is;
            state_is = way.state_is;
            list = way.list;
            lists = way.lists;
            length_is = way.length_is;
            walked = walked_next graph.grammar.rules tokens now.numbered (found old) (found p) sound.graph now.graph way.step.grows node link old.level.at
                way.list count reduction there way.walked (found q) later.graph step.grows next_link.is now_node by_level;
          }

  pub under_way_all : count ≡ size → IsNodeWalked graph.grammar.rules (found old) (found p) node link old.level.at
  under_way_all all = walked_node graph.grammar.rules (found old) (found p) node link old.level.at way.kernel way.list count now_node way.lists
      (way.length_is ∙ sym all) way.walked

  -- an error in the next walk
  pub way_on : (q : Parser) (second : GraphMeaning Base) (after : ℕ) → IsStep tokens p q first second between after
      → IsStep tokens old q graph second before after
  way_on q second after step = step_on tokens old p q graph first second before between after way.step step
