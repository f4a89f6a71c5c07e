-- What a walk has done that has come to some of its trails.
use Rattle.std.proofs.Common.{◌≡◌, ℕ, ◌<◌, ◌≤◌, ◌⊎◌, inl, inr, List, [], length, reverse, Bool, true, false, IsTrue, Contains}
use Rattle.std.proofs.Common.{refl, sym, ◌∙◌, ap, subst, arith}
use Rattle.std.proofs.lemmas.List.{append-nil, length-reverse, reverse-reverse}
use Rattle.std.proofs.lemmas.Option.{slice_get_within}
use Rattle.forest.specs.declared.symbols.SymbolId.{SymbolId}
use Rattle.forest.specs.declared.rules.Rule.{Rule}
use Rattle.edit_log.specs.History.{Grammar}
use Rattle.item_sets.specs.declared.item.Item.{Item}
use Rattle.item_sets.proofs.Numbering.{IsNumbered}
use Rattle.item_sets.proofs.Chains.{at_below}
use Rattle.live_graph.specs.Meaning.{GraphMeaning}
use Rattle.gss.specs.declared.trails.Walk.{Walk as TrailWalk}
use Rattle.gss.specs.Trails.{LeadsDown, IsTrailOf, IsTrailBefore, IsFrom, IsOn, Standing, IsNextTrail, IsAtEnd}
use Rattle.gss.proofs.TrailOrders.{from_here, from_before, before_from, from_whole}
use Rattle.gss.proofs.TrailParts.{one_node}
use Rattle.gss.proofs.TrailSteps.{part_of_trail, comes, calls_left, fewer_calls}
use Rattle.packed_spans.specs.Packed.{PackedSplit}
use Rattle.parser_states.specs.Asked.{StandsButKernels}
use Rattle.parser_states.proofs.AskedKernels.{stands_same, stands_join}
use Rattle.rekers.specs.declared.parser.Parser.{Parser}
use Rattle.rekers.specs.declared.level.Level.{Level}
use Rattle.rekers.specs.declared.walk.Walk.{Walk}
use Rattle.rekers.specs.Found.{Findings, found, IsNode, Grows}
use Rattle.rekers.specs.Reductions.{IsReducible, IsReduced}
use Rattle.rekers.specs.Sound.{IsSoundGraph, IsSoundParser, IsLevel}
use Rattle.rekers.specs.Starts.{trails_for, IsStart, IsTop}
use Rattle.rekers.specs.Steps.{IsStep, IsWithinLimit, IsFoundOn, IsFresh, IsWalked, IsThrough, IsOfLevel, IsToReduce, Reduces, trail_of}
use Rattle.rekers.proofs.Growth.{node_grows, partial_grows, told_grows}
use Rattle.rekers.proofs.Trails.{one_told}
use Rattle.rekers.proofs.Walks.{trail_size, partial_size, partial_back, partial_left, reduced_on, told_back}
use Rattle.rekers.proofs.Stepping.{step_alone, step_on}
use Rattle.rekers.proofs.TrailWalks.{before_self, leads_down, goes_on_down, is_of_walk, through_reverse}
use Rattle.rekers.proofs.StartedWalks.{start_on, start_before, sound_walk, within_walk}

-- ---- reductions through a link

-- all reductions along trails through the link are made
abbrev pub AreMade : List Rule → Findings → Walk → ℕ → Type 0
AreMade rules f walk at = (lower : ℕ) (trail labels : List ℕ) → IsReducible rules f walk.reduction lower trail labels walk.top at
    → IsThrough walk.through trail → IsReduced f walk.reduction lower labels at

pub found_grows : {rules : List Rule} (f g : Findings) → Grows f g → {walk : Walk} {split : PackedSplit} → IsFoundOn rules f walk split
    → IsFoundOn rules g walk split
found_grows f g grows is = record { trail = is.trail; told = told_grows f g grows is.told; number = is.number; through = is.through }

module _ (rules : List Rule) (tokens : List SymbolId) (f g : Findings) (graph : IsSoundGraph rules tokens f) (grows : Grows f g) (walk : Walk) where
  -- no trail through an old link and none behind it is new
  pub reducible_before : {lower : ℕ} {trail labels : List ℕ} {at : ℕ} → walk.through < length f.links → {w : List Item} {i : ℕ} → IsNode f walk.top w i
      → IsReducible rules g walk.reduction lower trail labels walk.top at → IsThrough walk.through trail
      → IsReducible rules f walk.reduction lower trail labels walk.top at
  reducible_before below n p through =
      partial_back rules tokens f g graph grows p (λ link c. omega (arith, through.none_behind link c, below)) n

  -- what is made stays so
  pub made_on : (at : ℕ) → walk.through < length f.links → {w : List Item} {i : ℕ} → IsNode f walk.top w i → AreMade rules f walk at
      → AreMade rules g walk at
  made_on at below n made lower trail labels p through =
      reduced_on rules tokens f g graph grows (partial_left p) (made lower trail labels (reducible_before below n p through) through)

-- ---- trails that the walk has come to

-- All reductions are made but those along the trail that the walk stands at, if there is more, and along those that are to come. All new splits
-- were found along others.
pub record IsWalkedTo (rules : List Rule) (old new : Findings) (walk : Walk) (at : ℕ) (standing : Standing) (is_more : Bool) : Type 0 where
  pub all : (lower : ℕ) (trail labels : List ℕ) → IsReducible rules new walk.reduction lower trail labels walk.top at → IsThrough walk.through trail
      → (IsTrue is_more × IsFrom standing.trail (reverse trail)) ⊎ IsReduced new walk.reduction lower labels at
  pub only : (split : PackedSplit) → Contains new.splits split
      → Contains old.splits split ⊎ ((on : IsFoundOn rules new walk split) × (IsTrue is_more → IsTrailBefore (reverse on.trail) standing.trail))

-- the walk goes from trail to trail
module _ (rules : List Rule) (tokens : List SymbolId) (numbers : IsNumbered rules) (old f g : Findings) (graph : IsSoundGraph rules tokens f)
    (grows : Grows f g) (walk : Walk) (at first_node : ℕ) (standing next : Standing) (is_more : Bool)
    (so_far : IsWalkedTo rules old f walk at standing true) (walk_is : standing.walk ≡ trails_for walk first_node) (begun : IsTrue standing.is_begun)
    (lower : ℕ) (here : IsTrailOf f.links standing.walk standing.trail) (down : LeadsDown f.links walk.through walk.top standing.trail lower)
    (made : Reduces rules f g walk.reduction lower (reverse standing.trail) walk.top at) (below : walk.through < length f.links)
    {w : List Item} {i : ℕ} (top : IsNode f walk.top w i)
    (of_walk : (low : ℕ) (trail labels : List ℕ) → IsReducible rules g walk.reduction low trail labels walk.top at → IsThrough walk.through trail
    → IsTrailOf g.links (trails_for walk first_node) (reverse trail))
    (comes_next : IsTrue is_more → IsNextTrail g.links standing next.trail) (ends : is_more ≡ false → IsAtEnd g.links standing) where
  -- the reduction is along this trail, or along one that the walk has come to before, or is to come
  by_trail : {low : ℕ} {trail labels : List ℕ} → IsReducible rules g walk.reduction low trail labels walk.top at → IsThrough walk.through trail
      → IsFrom standing.trail (reverse trail)
      → (IsTrue is_more × IsFrom next.trail (reverse trail)) ⊎ IsReduced g walk.reduction low labels at
  by_trail {low} {trail} {labels} p through from =
      let was = reducible_before rules tokens f g graph grows walk below top p through in
      let size : length standing.trail ≡ length (reverse trail) =
      here.size ∙ ap (λ (w : TrailWalk). w.length) walk_is ∙ sym (length-reverse trail ∙ trail_size p.along ∙ partial_size p) in
      elim (from_whole standing.trail (reverse trail) size from) [
        | inl same ↦
            let is : trail ≡ reverse standing.trail = sym (reverse-reverse trail) ∙ ap (λ ns. reverse ns) same in
            let leads = leads_down f.links walk.through was.along through.none_behind in
            let low_is : low ≡ lower = one_node f.links walk.through walk.top standing.trail low lower
            (subst (λ ns. LeadsDown f.links walk.through walk.top ns low) same leads) down in
            let now = subst (λ n. IsReducible rules f walk.reduction n (reverse standing.trail) labels walk.top at) low_is
            (subst (λ ns. IsReducible rules f walk.reduction low ns labels walk.top at) is was) in
            inr (subst (λ n. IsReduced g walk.reduction n labels at) (sym low_is) (made.made labels now))
        | inr later ↦
            let of = subst (λ w. IsTrailOf g.links w (reverse trail)) (sym walk_is) (of_walk low trail labels p through) in
            let (more, which) = comes g.links standing next is_more comes_next ends (reverse trail) of
            (from_before standing.trail (reverse trail) later, λ b. later) in
            inl (
              more,
              elim which [
                | inl same ↦ subst (λ ns. IsFrom next.trail ns) (sym same) (from_here next.trail)
                | inr behind ↦ from_before next.trail (reverse trail) behind
              ],
            )
      ]

  pub walked_more : IsWalkedTo rules old g walk at next is_more
  walked_more = record {
    all = λ low trail labels p through. elim (so_far.all low trail labels (reducible_before rules tokens f g graph grows walk below top p through) through) [
      | inl (more, from) ↦ by_trail p through from
      | inr reduced ↦ inr (reduced_on rules tokens f g graph grows (partial_left p) reduced)
    ];
    only = λ split c. elim (made.only split c) [
      | inl in_f ↦ elim (so_far.only split in_f) [
        | inl in_old ↦ inl in_old
        | inr (on, before) ↦ inr (
          record { trail = on.trail; told = told_grows f g grows on.told; number = on.number; through = on.through },
          λ more. before_from (reverse on.trail) standing.trail next.trail (before refl)
              (from_before standing.trail next.trail ((comes_next more).to_come.1 begun)),
        )
      ]
      | inr (number, told) ↦ inr (
        record {
          trail = reverse standing.trail;
          told = told;
          number = number;
          through = through_reverse f.links walk first_node standing.trail (subst (λ w. IsTrailOf f.links w standing.trail) walk_is here);
        },
        λ more. subst (λ ns. IsTrailBefore ns next.trail) (sym (reverse-reverse standing.trail)) ((comes_next more).to_come.1 begun),
      )
    ];
  }

-- ---- the parser's walk

-- the parser has come to some of the walk's trails
pub record IsUnderWay {Base : Type 0} (tokens : List SymbolId) (old new : Parser) (graph graph' : GraphMeaning Base) (before after : ℕ) (walk : Walk)
    (is_more : Bool) : Type 0 where
  pub step : IsStep tokens old new graph graph' before after
  pub stands : StandsButKernels graph graph'
  pub back : before ≤ after
  pub within : IsWithinLimit new
  pub walk_is : new.trails.walk ≡ trails_for walk old.level.first_node
  pub begun : IsTrue new.trails.is_begun
  pub on : IsOn new.stacks.links new.trails
  pub here : IsTrue is_more → IsTrailOf new.stacks.links new.trails.walk new.trails.trail
  pub walked : IsWalkedTo graph.grammar.rules (found old) (found new) walk old.level.at new.trails is_more

-- after the first call
pub under_way_first : {Base : Type 0} (tokens : List SymbolId) (p : Parser) (graph : GraphMeaning Base) (steps : ℕ) (walk : Walk) (start at : Standing)
    (is_more : Bool) → IsSoundParser graph.grammar.rules tokens p → IsWithinLimit p → IsOfLevel (found p) p.level.first_link walk.through
    → IsStart p.stacks.links p.is_flat walk p.level.first_node start → at.walk ≡ start.walk → IsTrue at.is_begun → IsOn p.stacks.links at
    → (IsTrue is_more → IsNextTrail p.stacks.links start at.trail) → (is_more ≡ false → IsAtEnd p.stacks.links start)
    → IsUnderWay tokens p (record p { trails = at }) graph graph steps steps walk is_more
under_way_first tokens p graph steps walk start at is_more sound within of_level is same begun on next end =
    let rules = graph.grammar.rules in
    record {
      step = step_alone tokens p (record p { trails = at }) graph steps (sound_walk rules tokens p at sound) (grows_self p at) refl refl;
      stands = stands_same graph;
      back = omega arith;
      within = within_walk p at within;
      walk_is = same ∙ is.walk_is;
      begun = begun;
      on = on;
      here = λ more. subst (λ w. IsTrailOf p.stacks.links w at.trail) (sym same) (next more).is;
      walked = record {
        all = λ lower trail labels q through.
            let of = subst (λ w. IsTrailOf p.stacks.links w (reverse trail)) (sym is.walk_is)
            (is_of_walk rules tokens (found p) sound.graph p.level.at p.level.first_node p.level.first_link sound.level walk of_level.of_level q through) in
            let from = start_before rules tokens p sound walk of_level start is q.along through in
            let (more, which) = comes p.stacks.links start at is_more next end (reverse trail) of
            (from, λ b. absurd (let no = b in let not = is.not_begun in cc)) in
            inl (
              more,
              elim which [
                | inl it ↦ subst (λ ns. IsFrom at.trail ns) (sym it) (from_here at.trail)
                | inr behind ↦ from_before at.trail (reverse trail) behind
              ],
            );
        only = λ split c. inl c;
      };
    }
  where
    grows_self : (p : Parser) (at : Standing) → Grows (found p) (found (record p { trails = at }))
    grows_self p at = record {
      kernels = λ place x e. e;
      nodes = λ place x e. e;
      links = λ place x e. e;
      spans = λ place x e. e;
      splits = λ split c. c;
      owners = λ place x e. e;
    }

-- the same of a parser that has begun the walk
module _ (p q : Parser) (same : q ≡ record p { trails = q.trails }) where
  links_are : q.stacks.links ≡ p.stacks.links
  links_are = ap (λ (r : Parser). r.stacks.links) same

  pub begun_on : (rules : List Rule) (tokens : List SymbolId) → IsSoundParser rules tokens p → (walk : Walk)
      → IsOfLevel (found p) p.level.first_link walk.through → IsStart p.stacks.links p.is_flat walk p.level.first_node q.trails
      → IsTop rules (found p) walk p.level.at → IsOn q.stacks.links q.trails
  begun_on rules tokens sound walk of_level is top =
      subst (λ ls. IsOn ls q.trails) (sym links_are) (start_on rules tokens p sound walk of_level q.trails is top)

  pub under_way_begun : {Base : Type 0} (tokens : List SymbolId) (graph : GraphMeaning Base) (steps : ℕ) (walk : Walk) (at : Standing) (is_more : Bool)
      → IsSoundParser graph.grammar.rules tokens p → IsWithinLimit p → IsOfLevel (found p) p.level.first_link walk.through
      → IsStart p.stacks.links p.is_flat walk p.level.first_node q.trails → at.walk ≡ q.trails.walk → IsTrue at.is_begun → IsOn q.stacks.links at
      → (IsTrue is_more → IsNextTrail q.stacks.links q.trails at.trail) → (is_more ≡ false → IsAtEnd q.stacks.links q.trails)
      → IsUnderWay tokens p (record q { trails = at }) graph graph steps steps walk is_more
  under_way_begun tokens graph steps walk at is_more sound within of_level is walk_is begun on next end =
      subst (λ (r : Parser). IsUnderWay tokens p (record r { trails = at }) graph graph steps steps walk is_more) (sym same)
      (under_way_first tokens p graph steps walk q.trails at is_more sound within of_level is walk_is begun (subst (λ ls. IsOn ls at) links_are on)
      (λ more. subst (λ ls. IsNextTrail ls q.trails at.trail) links_are (next more)) (λ none. subst (λ ls. IsAtEnd ls q.trails) links_are (end none)))

module _ {Base : Type 0} (tokens : List SymbolId) (old p : Parser) (graph first : GraphMeaning Base) (before between : ℕ) (walk : Walk)
    (sound : IsSoundParser graph.grammar.rules tokens old) (top : IsTop graph.grammar.rules (found old) walk old.level.at)
    (of_level : IsOfLevel (found old) old.level.first_link walk.through) (fresh : IsFresh graph.grammar.rules (found old) walk)
    (way : IsUnderWay tokens old p graph first before between walk true) where
  now : IsSoundParser graph.grammar.rules tokens p
  now = subst (λ (gr : Grammar). IsSoundParser gr.rules tokens p) way.stands.grammar way.step.sound

  here : IsTrailOf p.stacks.links (trails_for walk old.level.first_node) p.trails.trail
  here = subst (λ w. IsTrailOf p.stacks.links w p.trails.trail) way.walk_is (way.here refl)

  through : IsThrough walk.through (trail_of p)
  through = through_reverse p.stacks.links walk old.level.first_node p.trails.trail here

  below : walk.through < length p.stacks.links
  below =
      let (edge, at) = at_below old.stacks.links walk.through of_level.is in
      slice_get_within p.stacks.links walk.through edge (way.step.grows.links walk.through edge at)

  leads : (lower : ℕ) → LeadsDown p.stacks.links p.trails.walk.last p.trails.walk.top p.trails.trail lower
      → LeadsDown p.stacks.links walk.through walk.top p.trails.trail lower
  leads lower down = subst (λ (w : TrailWalk). LeadsDown p.stacks.links w.last w.top p.trails.trail lower) way.walk_is down

  -- the reduction along the trail
  reducible : (lower : ℕ) → LeadsDown p.stacks.links walk.through walk.top p.trails.trail lower
      → (labels : List ℕ) × IsReducible graph.grammar.rules (found p) walk.reduction lower (trail_of p) labels walk.top old.level.at
  reducible lower down =
      let (labels, is) = goes_on_down graph.grammar.rules tokens (found p) now.graph now.numbered walk.through p.trails.trail walk.top walk.reduction.length
      lower [] [] (partial_grows (found old) (found p) way.step.grows top.partial) here.size down in
      (labels, subst (λ ns. IsReducible graph.grammar.rules (found p) walk.reduction lower ns labels walk.top old.level.at) (append-nil (trail_of p)) is)

  pub to_reduce : (lower : ℕ) → LeadsDown p.stacks.links p.trails.walk.last p.trails.walk.top p.trails.trail lower
      → IsToReduce first.grammar.rules (found p) walk.reduction lower (trail_of p) walk.top p.level.at
  to_reduce lower down =
      let rules = graph.grammar.rules in
      let (labels, is) = reducible lower (leads lower down) in
      let by_rules : IsToReduce rules (found p) walk.reduction lower (trail_of p) walk.top old.level.at = record {
        labels = labels;
        reducible = is;
        untold = λ split c number told. elim (way.walked.only split c) [
          | inl in_old ↦
              let was = told_back rules tokens (found old) (found p) sound.graph way.step.grows now.numbered now.graph split (trail_of p) walk.top in_old told
              in
              fresh split in_old (record { trail = trail_of p; told = was; number = number; through = through })
          | inr (on, earlier) ↦
              let same : on.trail ≡ trail_of p = (one_told rules tokens (found p) now.graph now.numbered on.told told).0 in
              let turned : reverse on.trail ≡ p.trails.trail = ap (λ ns. reverse ns) same ∙ reverse-reverse p.trails.trail in
              before_self p.trails.trail (subst (λ ns. IsTrailBefore ns p.trails.trail) turned (earlier refl))
        ];
      } in
      subst (λ (gr : Grammar). IsToReduce gr.rules (found p) walk.reduction lower (trail_of p) walk.top p.level.at) (sym way.stands.grammar)
      (subst (λ (lv : Level). IsToReduce rules (found p) walk.reduction lower (trail_of p) walk.top lv.at) (sym way.step.level) by_rules)

  -- it is made
  module _ (q : Parser) (second : GraphMeaning Base) (after : ℕ) (step : IsStep tokens p q first second between after) (lower : ℕ)
      (down : LeadsDown p.stacks.links p.trails.walk.last p.trails.walk.top p.trails.trail lower) (stands : StandsButKernels first second)
      (trails : q.trails ≡ p.trails) where
    both : IsStep tokens old q graph second before after
    both = step_on tokens old p q graph first second before between after way.step step

    both_stand : StandsButKernels graph second
    both_stand = stands_join graph first second way.stands stands

    later : IsSoundParser graph.grammar.rules tokens q
    later = subst (λ (gr : Grammar). IsSoundParser gr.rules tokens q) both_stand.grammar both.sound

    of_walk : (low : ℕ) (trail labels : List ℕ) → IsReducible graph.grammar.rules (found q) walk.reduction low trail labels walk.top old.level.at
        → IsThrough walk.through trail → IsTrailOf q.stacks.links (trails_for walk old.level.first_node) (reverse trail)
    of_walk low trail labels p = is_of_walk graph.grammar.rules tokens (found q) later.graph old.level.at old.level.first_node old.level.first_link
        (subst (λ (lv : Level). IsLevel (found q) lv.at lv.first_node lv.first_link) both.level later.level) walk of_level.of_level p

    -- the walk stands at links of the parser that has more
    pub still_on : IsOn q.stacks.links q.trails
    still_on =
        let (labels, is) = reducible lower (leads lower down) in
        let there = of_walk lower (trail_of p) labels (partial_grows (found p) (found q) step.grows is) through in
        let trail : IsTrailOf q.stacks.links (trails_for walk old.level.first_node) p.trails.trail =
        subst (λ ns. IsTrailOf q.stacks.links (trails_for walk old.level.first_node) ns) (reverse-reverse p.trails.trail) there in
        subst (λ (at : Standing). IsOn q.stacks.links at) (sym trails)
        (part_of_trail q.stacks.links p.trails.walk p.trails.trail (subst (λ w. IsTrailOf q.stacks.links w p.trails.trail) (sym way.walk_is) trail))

    module _ (at : Standing) (is_more : Bool) (same : at.walk ≡ q.trails.walk) (begun : IsTrue at.is_begun) (on : IsOn q.stacks.links at)
        (next : IsTrue is_more → IsNextTrail q.stacks.links q.trails at.trail) (end : is_more ≡ false → IsAtEnd q.stacks.links q.trails) where
      next_here : IsTrue is_more → IsNextTrail q.stacks.links p.trails at.trail
      next_here more = subst (λ (s : Standing). IsNextTrail q.stacks.links s at.trail) trails (next more)

      end_here : is_more ≡ false → IsAtEnd q.stacks.links p.trails
      end_here none = subst (λ (s : Standing). IsAtEnd q.stacks.links s) trails (end none)

      pub under_way_more : Reduces first.grammar.rules (found p) (found q) walk.reduction lower (trail_of p) walk.top p.level.at → IsWithinLimit q
          → between ≤ after → IsUnderWay tokens old (record q { trails = at }) graph second before after walk is_more
      under_way_more made within back =
          let rules = graph.grammar.rules in
          let by_rules : Reduces rules (found p) (found q) walk.reduction lower (trail_of p) walk.top p.level.at =
          subst (λ (gr : Grammar). Reduces gr.rules (found p) (found q) walk.reduction lower (trail_of p) walk.top p.level.at) way.stands.grammar made in
          let by_level : Reduces rules (found p) (found q) walk.reduction lower (trail_of p) walk.top old.level.at =
          subst (λ (lv : Level). Reduces rules (found p) (found q) walk.reduction lower (trail_of p) walk.top lv.at) way.step.level by_rules in
          let whole = both in
          record {
            step = record {
              sound = sound_walk second.grammar.rules tokens q at whole.sound;
              grows = whole.grows;
              placed = whole.placed;
              level = whole.level;
              asks = whole.asks;
            };
            stands = both_stand;
            back = let n = way.back in omega (arith, n, back);
            within = within_walk q at within;
            walk_is = same ∙ ap (λ (s : Standing). s.walk) trails ∙ way.walk_is;
            begun = begun;
            on = on;
            here = λ more. subst (λ w. IsTrailOf q.stacks.links w at.trail) (sym same) (next more).is;
            walked = walked_more rules tokens now.numbered (found old) (found p) (found q) now.graph step.grows walk old.level.at
                old.level.first_node p.trails at
                is_more way.walked way.walk_is way.begun lower (way.here refl) (leads lower down) by_level below
                (node_grows (found old) (found p) way.step.grows top.partial.top_is) of_walk next_here end_here;
          }

      pub under_way_fewer : calls_left at is_more < calls_left p.trails true
      under_way_fewer = fewer_calls q.stacks.links p.trails at is_more way.begun (subst (λ (s : Standing). IsOn q.stacks.links s) trails still_on)
          (same ∙ ap (λ (s : Standing). s.walk) trails) on next_here

  -- an error in the reduction
  pub way_step : (q : Parser) (second : GraphMeaning Base) (after : ℕ) → IsStep tokens p q first second between after
      → IsStep tokens old q graph second before after
  way_step q second after step = step_on tokens old p q graph first second before between after way.step step

-- the walk has come to all trails
pub under_way_all : {Base : Type 0} (tokens : List SymbolId) (old p : Parser) (graph first : GraphMeaning Base) (before between : ℕ) (walk : Walk)
    → IsUnderWay tokens old p graph first before between walk false → IsWalked graph.grammar.rules (found old) (found p) walk old.level.at
under_way_all tokens old p graph first before between walk way = record {
  all = λ lower trail labels q through. elim (way.walked.all lower trail labels q through) [
    | inl (more, from) ↦ absurd (let no = more in cc)
    | inr reduced ↦ reduced
  ];
  only = λ split c. elim (way.walked.only split c) [ inl in_old ↦ inl in_old | inr (on, earlier) ↦ inr on ];
}
