-- Shifts: a token leads from nodes of one level to nodes of the next.
use Rattle.std.proofs.Common.{◌≡◌, ℕ, suc, ◌+◌, ◌<◌, ◌≤◌, inl, inr, List, [], ◌∷◌, ◌++◌, length, sym, ◌∙◌, ap, subst, arith, Contains, slice_get, Some}
use Rattle.std.proofs.lemmas.Bool.{cases_lt}
use Rattle.std.proofs.lemmas.Option.{slice_get_within}
use Rattle.forest.specs.declared.symbols.SymbolId.{SymbolId}
use Rattle.forest.specs.declared.rules.Rule.{Rule}
use Rattle.forest.specs.Derivation.{Derives, token, IsNonterminal, AreTerminals}
use Rattle.edit_log.proofs.PlainLists.{each_contained}
use Rattle.item_sets.specs.declared.item.Item.{Item}
use Rattle.item_sets.specs.Expansions.{HasMove}
use Rattle.item_sets.proofs.Numbering.{IsNumbered}
use Rattle.gss.specs.declared.stack_graph.Place.{Place}
use Rattle.gss.specs.declared.stack_graph.Edge.{Edge}
use Rattle.gss.specs.PlaceGraphs.{place_with, edge_of}
use Rattle.live_graph.specs.Meaning.{GraphMeaning}
use Rattle.packed_spans.specs.declared.span.Span.{Span}
use Rattle.packed_spans.specs.declared.span.TheConstants.{TOKEN_PART}
use Rattle.packed_spans.specs.Complete.{IsPartAt, of_token}
use Rattle.packed_spans.specs.Packed.{Packed}
use Rattle.packed_spans.proofs.Lists.{contains_at}
use Rattle.parser_states.specs.declared.reduction.Reduction.{Reduction}
use Rattle.parser_states.specs.Asked.{AsksNew}
use Rattle.rekers.specs.declared.parser.Parser.{Parser}
use Rattle.forest.specs.Numbers.{KeepsNumbers}
use Rattle.rekers.specs.Found.{Findings, found, IsNode, Grows, IsTrail, here, over}
use Rattle.rekers.specs.Reductions.{IsReducible, IsLinkTo, IsWorked, IsBelow}
use Rattle.rekers.specs.Sound.{IsSoundParser, IsSoundGraph, IsLevel, ArePlaced}
use Rattle.rekers.specs.Steps.{IsStep, IsLinkable, IsUnlinked, IsShift, AreShifted}
use Rattle.rekers.specs.Shifts.{AreShiftedFrom}
use Rattle.rekers.proofs.Growth.{one_at, kernel_at, keeps_append, keeps_equal, grows_on, node_below, node_grows, link_grows, trail_back, reduced_grows}
use Rattle.rekers.proofs.NewNodes.{node_back, old_or_last}
use Rattle.rekers.proofs.NewSplits.{told_before}
use Rattle.rekers.proofs.Trails.{between, part_cases, reduces_to}

-- ---- the token at a node

module _ (rules : List Rule) (tokens : List SymbolId) (f : Findings) (node : ℕ) (kind : SymbolId) (at : ℕ) (shift : IsShift f tokens node kind at) where
  behind : suc shift.from ≡ at
  behind = let e = shift.next in omega (arith, e)

  pub token_linkable : HasMove rules (Contains shift.kernel) kind → IsLinkable rules tokens f node kind at
  token_linkable moves = record {
    kernel = shift.kernel;
    from = shift.from;
    node = shift.node_is;
    derives = subst (λ n. Derives rules tokens kind shift.from n) behind (token shift.token);
    moves = moves;
  }

  pub token_part : AreTerminals rules tokens → (spans : List Span) (place : Place) → slice_get f.nodes node ≡ Some place
      → IsPartAt rules tokens spans kind place.at TOKEN_PART at
  token_part terminals spans place e =
      let there = (kernel_at shift.node_is e).1 in
      let part : IsPartAt rules tokens spans kind shift.from TOKEN_PART (suc shift.from) =
      of_token shift.token (terminals kind (contains_at tokens shift.from kind shift.token)) in
      subst (λ n. IsPartAt rules tokens spans kind n TOKEN_PART at) (sym there)
      (subst (λ n. IsPartAt rules tokens spans kind shift.from TOKEN_PART n) behind part)

-- a link down to one node leads down to no other
pub unlinked_on : (f g : Findings) (upper : ℕ) (x : SymbolId) (lower label : ℕ) → g.links ≡ f.links ++ edge_of upper x lower label ∷ []
    → (first other : ℕ) (y : SymbolId) → (other ≡ lower → ⊥) → IsUnlinked f first other y → IsUnlinked g first other y
unlinked_on f g upper x lower label is first other y differs none = λ link (past, edge, e, low, by).
    elim (old_or_last f.links (edge_of upper x lower label) link edge (subst (λ ls. slice_get ls link ≡ Some edge) is e)) [
      | inl old ↦ none link (past, edge, old, low, by)
      | inr last ↦ differs (sym low ∙ ap (λ (q : Edge). q.lower) last.1)
    ]

-- ---- the step of one shift: a node, and the link to it

module _ (tokens : List SymbolId) (p q r : Parser) (first : q ≡ record p { states = q.states; stacks = q.stacks; openers = q.openers })
    (then : r ≡ record q { stacks = r.stacks; is_flat = r.is_flat }) (edge : Edge) (nodes : r.stacks.nodes ≡ q.stacks.nodes)
    (links : r.stacks.links ≡ q.stacks.links ++ edge ∷ []) where
  states_same : r.states ≡ q.states
  states_same = ap (λ (x : Parser). x.states) then

  spans_same : r.spans ≡ q.spans
  spans_same = ap (λ (x : Parser). x.spans) then

  owners_same : r.owners ≡ q.owners
  owners_same = ap (λ (x : Parser). x.owners) then

  link_adds : Grows (found q) (found r)
  link_adds = record {
    kernels = keeps_equal q.states.kernels r.states.kernels (ap (λ ss. ss.kernels) states_same);
    nodes = keeps_equal q.stacks.nodes r.stacks.nodes nodes;
    links = subst (λ ls. KeepsNumbers q.stacks.links ls) (sym links) (keeps_append q.stacks.links (edge ∷ []));
    spans = keeps_equal q.spans.spans r.spans.spans (ap (λ (ss : Packed). ss.spans) spans_same);
    splits = λ split c. subst (λ (ss : Packed). Contains ss.splits split) (sym spans_same) c;
    owners = keeps_equal q.owners.items r.owners.items (ap (λ os. os.items) owners_same);
  }

  placed_on : ArePlaced (found q) → ArePlaced (found r)
  placed_on placed state kernel e =
      let (node, i, is) = placed state kernel (subst (λ ss. slice_get ss.kernels state ≡ Some kernel) states_same e) in
      (node, i, node_grows (found q) (found r) link_adds is)

  pub splits_same : r.spans.splits ≡ p.spans.splits
  splits_same = ap (λ (ss : Packed). ss.splits) (spans_same ∙ ap (λ (x : Parser). x.spans) first)

  pub shift_step : {Base : Type 0} (graph graph' : GraphMeaning Base) (before after : ℕ) → Grows (found p) (found q) → (ArePlaced (found p)
      → ArePlaced (found q))
      → AsksNew p.states.kernels q.states.kernels graph graph' before after → IsSoundParser graph'.grammar.rules tokens r
      → IsStep tokens p r graph graph' before after
  shift_step graph graph' before after grows placed asks sound = record {
    sound = sound;
    grows = grows_on (found p) (found q) (found r) grows link_adds;
    placed = λ are. placed_on (placed are);
    level = ap (λ (x : Parser). x.level) then ∙ ap (λ (x : Parser). x.level) first;
    asks = subst (λ ss. AsksNew p.states.kernels ss.kernels graph graph' before after) (sym states_same) asks;
  }

-- ---- the nodes of a level, one after the other

module _ (rules : List Rule) (tokens : List SymbolId) (f g : Findings) (sound : IsSoundGraph rules tokens f) (grows : Grows f g) where
  -- the next node is shifted too
  pub shifted_more : (first node : ℕ) (kind : SymbolId) (at : ℕ) → node < length f.nodes → AreShiftedFrom rules f first node kind at
      → ((kernel : List Item) (i : ℕ) → IsNode f node kernel i → HasMove rules (Contains kernel) kind → (link : ℕ) × IsLinkTo g link node kind at TOKEN_PART)
      → AreShiftedFrom rules g first (node + 1) kind at
  shifted_more first node kind at within before this other low high kernel i n moves = elim (cases_lt other node) [
    | inl below ↦
        let (link, is) = before other low below kernel i (node_back rules tokens f g sound grows (omega (arith, below, within)) n) moves in
        (link, link_grows f g grows is)
    | inr above ↦
        let same : other ≡ node = omega (arith, above, high) in
        let own : IsNode g node kernel i = subst (λ m. IsNode g m kernel i) same n in
        let (link, is) = this kernel i (node_back rules tokens f g sound grows within own) moves in
        (link, subst (λ m. IsLinkTo g link m kind at TOKEN_PART) (sym same) is)
  ]

  -- after the shifts from a level all nodes before the next are shifted
  pub are_shifted : (at first_node first_link : ℕ) → IsLevel f at first_node first_link → IsLevel g (at + 1) (length f.nodes) (length f.links)
      → AreShifted rules tokens f at → (kind : SymbolId) → slice_get tokens at ≡ Some kind → AreShiftedFrom rules g first_node (length f.nodes) kind (at + 1)
      → AreShifted rules tokens g (at + 1)
  are_shifted at first_node first_link level next before kind is_token from_here node i kernel x n is below moves =
      let old : node < length f.nodes = elim (cases_lt node (length f.nodes)) [
        | inl less ↦ less
        | inr more ↦
            let last : i ≡ at + 1 = next.nodes_here node (place_with n.state i) n.there more in
            absurd (omega (arith, below, last))
      ] in
      let was = node_back rules tokens f g sound grows old n in
      elim (cases_lt i at) [
        | inl earlier ↦
            let (link, leads) = before node i kernel x was is earlier moves in
            (link, link_grows f g grows leads)
        | inr this ↦
            let same : i ≡ at = omega (arith, this, below) in
            let low : first_node ≤ node = elim (cases_lt node first_node) [
              | inl less ↦
                  let lower : i < at = level.nodes_before node (place_with was.state i) was.there less in
                  absurd (omega (arith, lower, same))
              | inr more ↦ more
            ] in
            let kinds : x ≡ kind = one_at tokens at x kind (subst (λ k. slice_get tokens k ≡ Some x) same is) is_token in
            let (link, leads) = from_here node low old kernel i n (subst (λ y. HasMove rules (Contains kernel) y) kinds moves) in
            let there : IsLinkTo g link node kind (i + 1) TOKEN_PART = subst (λ k. IsLinkTo g link node kind (k + 1) TOKEN_PART) (sym same) leads in
            (link, subst (λ y. IsLinkTo g link node y (i + 1) TOKEN_PART) (sym kinds) there)
      ]

-- ---- what was worked stays worked, where links and nodes are new, and no splits

module _ (rules : List Rule) (tokens : List SymbolId) (f g : Findings) (sound : IsSoundGraph rules tokens f) (numbers : IsNumbered rules)
    (sound' : IsSoundGraph rules tokens g) (grows : Grows f g) (same : g.splits ≡ f.splits) where
  top_below : {node top : ℕ} {trail labels : List ℕ} {xs : List SymbolId} → IsTrail f.links node trail xs labels top → node < length f.nodes
      → top < length f.nodes
  top_below here l = l
  top_below (over {link = link} e t) l = top_below t (node_below (between rules tokens f sound link e).upper_is)

  ends_below : {node top : ℕ} {trail labels : List ℕ} {xs : List SymbolId} → IsTrail f.links node trail xs labels top
      → IsBelow (length f.links) (length f.nodes) trail top → (node < length f.nodes) × (top < length f.nodes)
  ends_below here b = (b, b)
  ends_below (over {link = link} e t) b =
      let is = between rules tokens f sound link e in
      (node_below is.lower_is, top_below t (node_below is.upper_is))

  links_below : (trail : List ℕ) (top : ℕ) → IsBelow (length f.links) (length f.nodes) trail top → (link : ℕ) → Contains trail link → link < length f.links
  links_below [] top b link c = absurd (omega (arith, c.1))
  links_below (first ∷ trail) top b link c = each_contained (λ other. other < length f.links) (first ∷ trail) link b c

  -- a reduction along what is worked was there before
  reducible_back : {reduction : Reduction} {lower : ℕ} {trail labels : List ℕ} {top at : ℕ} → IsReducible rules g reduction lower trail labels top at
      → IsBelow (length f.links) (length f.nodes) trail top → IsReducible rules f reduction lower trail labels top at
  reducible_back {trail = trail} {top = top} r b =
      let along = trail_back grows.links r.along (links_below trail top b) in
      let (low, high) = ends_below along b in
      record {
        rule = r.rule;
        live = r.live;
        made = r.made;
        upper = r.upper;
        top_is = node_back rules tokens f g sound grows high r.top_is;
        finished = r.finished;
        within = r.within;
        along = along;
        kernel = r.kernel;
        from = r.from;
        node_is = node_back rules tokens f g sound grows low r.node_is;
        dotted = r.dotted;
      }

  -- the label of a link by a left side is a span that a link made
  label_owned : {link lower : ℕ} {x : SymbolId} {at label : ℕ} → IsLinkTo f link lower x at label → IsNonterminal rules x → label < length f.owners
  label_owned {link = link} {label = label} is left = elim (part_cases (between rules tokens f sound link is.there).part) [
    | inl other ↦ absurd (other.0 left)
    | inr span ↦ omega (arith, slice_get_within f.spans label _ span.1, sound.owned)
  ]

  pub worked_on : IsWorked rules f (length f.links) (length f.nodes) → IsWorked rules g (length f.links) (length f.nodes)
  worked_on worked = record {
    all = λ reduction lower trail labels top at r below.
        let was = reducible_back r below in
        let made = worked.all reduction lower trail labels top at was below in
        reduced_grows f g grows made (label_owned made.link_is (reduces_to rules tokens f sound numbers was).0);
    only = λ split trail top c told.
        let old = subst (λ ss. Contains ss split) same c in
        worked.only split trail top old (told_before rules tokens f g sound numbers sound' grows same split trail top old told);
  }
