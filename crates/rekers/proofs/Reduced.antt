-- Reductions: what their calls ask for, and the steps that they are.
use Rattle.std.proofs.Common.{◌≡◌, ℕ, ◌+◌, ◌<◌, ◌≤◌, ◌⊎◌, inl, inr, List, [], ◌∷◌, ◌++◌}
use Rattle.std.proofs.Common.{length, reverse, sym, ◌∙◌, ap, subst, arith, slice_get, get_or, Some, Result, Ok, Err}
use Rattle.std.specs.declared.alloc.Global.{Global}
use Rattle.std.specs.declared.vec.Vec.{Vec}
use Rattle.std.proofs.lemmas.Option.{slice_get_within, get_or_from_slice_get}
use Rattle.forest.specs.declared.symbols.SymbolId.{SymbolId}
use Rattle.forest.specs.declared.rules.Rule.{Rule}
use Rattle.forest.specs.Derivation.{IsNonterminal}
use Rattle.forest.proofs.Ascending.{contains_cases}
use Rattle.edit_log.specs.History.{Grammar}
use Rattle.item_sets.proofs.Chains.{at_below}
use Rattle.item_sets.proofs.Numbering.{IsNumbered}
use Rattle.gss.specs.declared.stack_graph.Edge.{Edge}
use Rattle.gss.specs.PlaceGraphs.{PlaceGraph, LeadsToBy}
use Rattle.gss.specs.Trails.{Standing}
use Rattle.live_graph.specs.Meaning.{GraphMeaning}
use Rattle.packed_spans.specs.declared.span.Span.{Span}
use Rattle.packed_spans.specs.declared.span.TheConstants.{TOKEN_PART}
use Rattle.packed_spans.specs.Complete.{StandsAlong, no_parts, next_part}
use Rattle.packed_spans.specs.Packed.{Packed, ArePartsOf}
use Rattle.parser_states.specs.declared.reduction.Reduction.{Reduction}
use Rattle.rekers.specs.declared.level.Level.{Level}
use Rattle.rekers.specs.declared.parser.Parser.{Parser}
use Rattle.rekers.specs.declared.parse_error.ParseError.{ParseError}
use Rattle.rekers.specs.declared.parse_error.ParseError.TheVariants.{TooLarge, NoMemory}
use Rattle.rekers.specs.Answers.{UnlessParseNoMemory}
use Rattle.rekers.specs.Found.{Findings, found, Grows}
use Rattle.rekers.specs.Reductions.{IsReducible}
use Rattle.rekers.specs.Sound.{IsSoundParser, IsSoundGraph}
use Rattle.rekers.specs.Steps.{IsStep, IsLinkable, IsLinkBy, IsToReduce, Reduces, HasFewNodes, labels_of, trail_of}
use Rattle.rekers.proofs.Growth.{one_at}
use Rattle.rekers.proofs.NewSplits.{labels_are, split_sound, split_grows, split_found, split_of}
use Rattle.rekers.proofs.NewSplits.{is_told, reduces_none, reduces_one, still_to_reduce, reduces_on}
use Rattle.rekers.proofs.Stepping.{step_alone, step_on}
use Rattle.rekers.proofs.LinkSteps.{link_found}
use Rattle.rekers.proofs.Trails.{part_cases, derived, reduces_to}

-- the link's label is the span
pub label_is : (f : Findings) (link lower : ℕ) (x : SymbolId) (at : ℕ) (by : IsLinkBy f link lower x at) (edge : Edge) → slice_get f.links link ≡ Some edge
    → edge.label ≡ by.label
label_is f link lower x at by edge e = ap (λ (q : Edge). q.label) (one_at f.links link edge _ e by.is.there)

-- what stands along symbols is tokens and spans
pub stands_parts : {rules : List Rule} {tokens : List SymbolId} {spans : List Span} {xs : List SymbolId} {i j : ℕ} {parts cuts : List ℕ}
    → StandsAlong rules tokens spans xs i parts cuts j → ArePartsOf spans parts
stands_parts no_parts part c = absurd (omega (arith, c.1))
stands_parts {spans = spans} (next_part {part = first} {parts = rest} p more) part c = elim (contains_cases first rest part c) [
  | inl same ↦ subst (λ n. (n ≡ TOKEN_PART) ⊎ (n < length spans)) same (elim (part_cases p) [
    | inl token ↦ inl token.3
    | inr span ↦ inr (slice_get_within spans first _ span.1)
  ])
  | inr there ↦ stands_parts more part there
]

module _ (rules : List Rule) (tokens : List SymbolId) (f : Findings) (graph : IsSoundGraph rules tokens f) where
  -- the labels of a trail are parts
  pub labels_parts : {reduction : Reduction} {lower : ℕ} {trail labels : List ℕ} {top at : ℕ} → IsReducible rules f reduction lower trail labels top at
      → ArePartsOf f.spans (labels_of f.links trail)
  labels_parts r =
      subst (λ ns. ArePartsOf f.spans ns) (labels_are r.along) (stands_parts (derived rules tokens f graph r.along r.node_is r.top_is).stands)

  -- the lower node of a reduction moves on its left side
  pub reducible_linkable : IsNumbered rules → {reduction : Reduction} {lower : ℕ} {trail labels : List ℕ} {top at : ℕ}
      → IsReducible rules f reduction lower trail labels top at → IsLinkable rules tokens f lower reduction.left at × IsNonterminal rules reduction.left
  reducible_linkable numbers r =
      let (nonterminal, derives, moves) = reduces_to rules tokens f graph numbers r in (
        record { kernel = r.kernel; from = r.from; node = r.node_is; derives = derives; moves = moves },
        nonterminal,
      )

-- a step, and more splits
pub step_more : {Base : Type 0} (tokens : List SymbolId) (p q r : Parser) (graph graph' : GraphMeaning Base) (before after : ℕ)
    → IsStep tokens p q graph graph' before after → r ≡ record q { spans = r.spans; parts = r.parts } → IsSoundParser graph'.grammar.rules tokens r
    → Grows (found q) (found r) → IsStep tokens p r graph graph' before after
step_more tokens p q r graph graph' before after step is sound grows =
    step_on tokens p q r graph graph' graph' before after after step
    (step_alone tokens q r graph' after sound grows (ap (λ (x : Parser). x.states) is) (ap (λ (x : Parser). x.level) is))

-- ---- a split

-- the owner that was read
owner_read : (owners : List ℕ) (label owner : ℕ) → label < length owners → owner ≡ get_or owners label owner → slice_get owners label ≡ Some owner
owner_read owners label owner below is =
    let (there, named) = at_below owners label below in
    subst (λ n. slice_get owners label ≡ Some n) (sym (is ∙ get_or_from_slice_get owners label there owner named)) named

module _ (rules : List Rule) (tokens : List SymbolId) (p : Parser) (sound : IsSoundParser rules tokens p) (reduction : Reduction) (link lower top : ℕ)
    (by : IsLinkBy (found p) link lower reduction.left p.level.at) (r : IsToReduce rules (found p) reduction lower (trail_of p) top p.level.at)
    (edge : Edge) (there : slice_get p.stacks.links link ≡ Some edge) where
  -- the label is the span of the link
  span_is : edge.label ≡ by.label
  span_is = label_is (found p) link lower reduction.left p.level.at by edge there

  pub span_owned : edge.label < length p.owners.items
  span_owned = omega (arith, span_is, by.owned)

  owner_is : (owner : ℕ) → owner ≡ get_or p.owners.items edge.label owner → slice_get p.owners.items by.label ≡ Some owner
  owner_is owner read =
      subst (λ n. slice_get p.owners.items n ≡ Some owner) span_is (owner_read p.owners.items edge.label owner span_owned read)

  -- another link made the span: the reduction asks for no split
  pub no_split : (owner : ℕ) → owner ≡ get_or p.owners.items edge.label owner → (owner ≡ link → ⊥)
      → Reduces rules (found p) (found p) reduction lower (trail_of p) top p.level.at
  no_split owner read other =
      reduces_none rules (found p) reduction lower (trail_of p) top p.level.at link by.label by.is
      (λ e. other (one_at p.owners.items by.label owner link (owner_is owner read) e))

  -- the split of the trail is there
  pub record HasSplit (packed : Packed) (parts : Vec ℕ Global) : Type 0 where
    pub stays : IsSoundParser rules tokens (record p { spans = packed; parts = parts })
    pub more : Grows (found p) (found (record p { spans = packed; parts = parts }))
    pub made : Reduces rules (found p) (found (record p { spans = packed; parts = parts })) reduction lower (trail_of p) top p.level.at

  -- the link made the span: the labels of its trail are the parts of a split
  pub one_split : (owner : ℕ) → owner ≡ get_or p.owners.items edge.label owner → owner ≡ link → (labels : List ℕ)
      → labels ≡ labels_of p.stacks.links (trail_of p) → (parts : Vec ℕ Global)
      → (packed : Packed) → packed.spans ≡ p.spans.spans → packed.splits ≡ p.spans.splits ++ split_of reduction edge.label labels ∷ []
      → HasSplit packed parts
  one_split owner read same labels named parts packed spans splits =
      let all = labels_of p.stacks.links (trail_of p) in
      let split = split_of reduction by.label all in
      let owned = subst (λ n. slice_get p.owners.items by.label ≡ Some n) same (owner_is owner read) in
      let told = is_told rules (found p) reduction lower (trail_of p) top p.level.at link by.label by.is owned r.reducible in
      let added : packed.splits ≡ p.spans.splits ++ split ∷ [] =
      splits ∙ ap (λ n. p.spans.splits ++ split_of reduction n labels ∷ []) span_is
      ∙ ap (λ ns. p.spans.splits ++ split_of reduction by.label ns ∷ []) named in
      let beside = split_found p split packed parts spans added in
      record {
        stays = split_sound rules tokens p sound split (trail_of p) top told (λ other c rule t. r.untold other c rule t) packed parts spans added;
        more = subst (λ g. Grows (found p) g) beside (split_grows (found p) split);
        made = subst (λ g. Reduces rules (found p) g reduction lower (trail_of p) top p.level.at) beside
            (reduces_one rules (found p) reduction lower (trail_of p) top p.level.at link by.label by.is told);
      }

-- ---- a reduction, after its link was found in a graph that was asked

module _ (tokens : List SymbolId) (G H : Grammar) (same : H ≡ G) (p q : Parser) (sound : IsSoundParser G.rules tokens p)
    (sound' : IsSoundParser H.rules tokens q)
    (grows : Grows (found p) (found q)) (splits : q.spans.splits ≡ p.spans.splits) (level : q.level ≡ p.level) (trails : q.trails ≡ p.trails) where
  sound_old : IsSoundParser G.rules tokens q
  sound_old = subst (λ (gr : Grammar). IsSoundParser gr.rules tokens q) same sound'

  pub to_reduce_on : {reduction : Reduction} {lower top : ℕ} → IsToReduce G.rules (found p) reduction lower (trail_of p) top p.level.at
      → IsToReduce H.rules (found q) reduction lower (trail_of q) top q.level.at
  to_reduce_on {reduction} {lower} {top} r =
      let still = still_to_reduce G.rules tokens (found p) (found q) sound.graph sound.numbered sound_old.graph grows splits r in
      subst (λ (gr : Grammar). IsToReduce gr.rules (found q) reduction lower (trail_of q) top q.level.at) (sym same)
      (subst (λ (l : Level). IsToReduce G.rules (found q) reduction lower (trail_of q) top l.at) (sym level)
      (subst (λ (s : Standing). IsToReduce G.rules (found q) reduction lower (reverse s.trail) top p.level.at) (sym trails) still))

  pub reduced_on : {h : Findings} {reduction : Reduction} {lower top : ℕ} → Reduces H.rules (found q) h reduction lower (trail_of q) top q.level.at
      → Reduces G.rules (found p) h reduction lower (trail_of p) top p.level.at
  reduced_on {h} {reduction} {lower} {top} is =
      reduces_on G.rules tokens (found p) (found q) sound.graph sound.numbered sound_old.graph grows splits
      (subst (λ (s : Standing). Reduces G.rules (found q) h reduction lower (reverse s.trail) top p.level.at) trails
      (subst (λ (l : Level). Reduces G.rules (found q) h reduction lower (trail_of q) top l.at) level
      (subst (λ (gr : Grammar). Reduces gr.rules (found q) h reduction lower (trail_of q) top q.level.at) same is)))

pub few_on : (q r : Parser) → r ≡ record q { spans = r.spans; parts = r.parts } → HasFewNodes q → HasFewNodes r
few_on q r is few = subst (λ (g : PlaceGraph). length g.nodes ≤ length g.links + 1) (sym (ap (λ (x : Parser). x.stacks) is)) few

-- what holds in any case
pub unless_any : {Y : Type 0} {P : Type 0} (result : Result Y ParseError) → P → UnlessParseNoMemory result P
unless_any (Ok y) holds = holds
unless_any (Err (TooLarge count)) holds = holds
unless_any (Err NoMemory) holds = tt

-- the link of a reduction is there
pub reduced_by : (rules : List Rule) (tokens : List SymbolId) (p : Parser) → IsSoundParser rules tokens p → (reduction : Reduction) (link lower top : ℕ)
    → IsToReduce rules (found p) reduction lower (trail_of p) top p.level.at → LeadsToBy p.stacks.links lower reduction.left p.level.first_link link
    → IsLinkBy (found p) link lower reduction.left p.level.at
reduced_by rules tokens p sound reduction link lower top r is =
    link_found rules tokens p sound (reducible_linkable rules tokens (found p) sound.graph sound.numbered r.reducible).1 is
