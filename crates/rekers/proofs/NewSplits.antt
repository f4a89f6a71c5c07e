-- One more split keeps what is found sound, and its reduction is made.
use Rattle.std.proofs.Common.{◌≡◌, ℕ, ◌+◌, ◌<◌, ◌≤◌, inl, inr, List, [], ◌∷◌, ◌++◌, length}
use Rattle.std.proofs.Common.{refl, sym, ◌∙◌, ap, subst, arith, Contains, slice_get, slice_index_or, get_or, drop, reverse, map, Some}
use Rattle.std.specs.declared.alloc.Global.{Global}
use Rattle.std.specs.declared.vec.Vec.{Vec}
use Rattle.std.proofs.lemmas.List.Elements.{Contains-push, Contains-push_cases, Contains-append_left}
use Rattle.std.proofs.lemmas.List.{drop_more, map-append, reverse-append}
use Rattle.std.proofs.lemmas.Option.{get_or_from_slice_get}
use Rattle.forest.specs.declared.symbols.SymbolId.{SymbolId}
use Rattle.forest.specs.declared.symbols.TheConstants.{START}
use Rattle.forest.specs.declared.rules.Rule.{Rule}
use Rattle.forest.specs.Distinct.{IsDistinct}
use Rattle.forest.proofs.Ascending.{contains_here, contains_there}
use Rattle.item_sets.proofs.Numbering.{IsNumbered}
use Rattle.gss.specs.declared.stack_graph.Edge.{Edge}
use Rattle.gss.specs.PlaceGraphs.{edge_of}
use Rattle.packed_spans.specs.declared.span.Span.{Span}
use Rattle.packed_spans.specs.Packed.{Packed, PackedSplit}
use Rattle.parser_states.specs.declared.reduction.Reduction.{Reduction}
use Rattle.rekers.specs.declared.parser.Parser.{Parser}
use Rattle.rekers.specs.Found.{Findings, found, Grows, IsTrail, here, over}
use Rattle.rekers.specs.Reductions.{IsReducible, IsLinkTo, IsFoundAlong}
use Rattle.rekers.specs.Sound.{IsSoundParser, IsSoundGraph, IsLevel, AreOpeners}
use Rattle.rekers.specs.Steps.{IsToReduce, Reduces, labels_of}
use Rattle.rekers.proofs.Growth.{keeps_same, node_grows, link_grows, told_grows, partial_grows}
use Rattle.rekers.proofs.NewNodes.{link_stays, owner_stays}
use Rattle.rekers.proofs.Trails.{one_told}

-- ---- labels

pub edge_at : (links : List Edge) (link : ℕ) (edge d : Edge) → slice_get links link ≡ Some edge → slice_index_or links link d ≡ edge
edge_at links link edge d e = get_or_from_slice_get links link edge d e

-- the label of one link
pub only_label : (links : List Edge) (trail : List ℕ) (edge : Edge) → 1 ≤ length trail → length trail < 2
    → slice_get links (slice_index_or trail 0 0) ≡ Some edge → edge.label ∷ [] ≡ labels_of links (reverse trail)
only_label links [] edge least most is = absurd (omega (arith, least))
only_label links (a ∷ []) edge least most is = sym (ap (λ (e : Edge). e.label ∷ []) (edge_at links a edge (edge_of 0 START 0 0) is))
only_label links (a ∷ b ∷ more) edge least most is = absurd (omega (arith, most))

-- the labels of two links, the lower one first
pub pair_labels : (links : List Edge) (trail : List ℕ) (lower upper : Edge) → 2 ≤ length trail → length trail < 3
    → slice_get links (slice_index_or trail 1 0) ≡ Some lower → slice_get links (slice_index_or trail 0 0) ≡ Some upper
    → lower.label ∷ upper.label ∷ [] ≡ labels_of links (reverse trail)
pair_labels links [] lower upper least most is is' = absurd (omega (arith, least))
pair_labels links (a ∷ []) lower upper least most is is' = absurd (omega (arith, least))
pair_labels links (a ∷ b ∷ []) lower upper least most is is' =
    sym (ap (λ (e : Edge). e.label ∷ (slice_index_or links a (edge_of 0 START 0 0)).label ∷ []) (edge_at links b lower (edge_of 0 START 0 0) is)
    ∙ ap (λ (e : Edge). lower.label ∷ e.label ∷ []) (edge_at links a upper (edge_of 0 START 0 0) is'))
pair_labels links (a ∷ b ∷ c ∷ more) lower upper least most is is' = absurd (omega (arith, most))

-- the labels of a trail are those of its links
pub labels_are : {links : List Edge} {node top : ℕ} {trail labels : List ℕ} {xs : List SymbolId} → IsTrail links node trail xs labels top
    → labels ≡ labels_of links trail
labels_are here = refl
labels_are {links} (over {lower = lower} {middle = middle} {link = link} {x = x} {label = label} {trail = rest} {labels = more} e t) =
    let head : label ≡ (slice_index_or links link (edge_of 0 START 0 0)).label =
    ap (λ (q : Edge). q.label) (sym (edge_at links link (edge_of middle x lower label) (edge_of 0 START 0 0) e)) in
    let tail : more ≡ labels_of links rest = labels_are t in
    ap (λ n. n ∷ more) head ∙ ap (λ ns. (slice_index_or links link (edge_of 0 START 0 0)).label ∷ ns) tail

-- the labels of one link more, from the lowest up
pub labels_more : (links : List Edge) (trail : List ℕ) (place : ℕ) (edge : Edge) (labels more : List ℕ) → place < length trail
    → slice_get links (get_or trail place 0) ≡ Some edge → labels ≡ labels_of links (reverse (drop (place + 1) trail)) → more ≡ labels ++ edge.label ∷ []
    → more ≡ labels_of links (reverse (drop place trail))
labels_more links trail place edge labels more below e so_far is =
    let label_of : ℕ → ℕ = λ link. (slice_index_or links link (edge_of 0 START 0 0)).label in
    let lower = drop (place + 1) trail in
    let link = get_or trail place 0 in
    let same : edge.label ≡ label_of link = ap (λ (q : Edge). q.label) (sym (edge_at links link edge (edge_of 0 START 0 0) e)) in
    let split : reverse (drop place trail) ≡ reverse lower ++ link ∷ [] =
    ap (λ ns. reverse ns) (drop_more trail place 0 below) ∙ reverse-append (link ∷ []) lower in
    is ∙ ap (λ ns. ns ++ edge.label ∷ []) so_far ∙ ap (λ n. map label_of (reverse lower) ++ n ∷ []) same
    ∙ sym (map-append label_of (reverse lower) (link ∷ [])) ∙ ap (λ ns. map label_of ns) (sym split)

-- ---- distinct lists

pub distinct_push : {X : Type 0} (xs : List X) (x : X) → IsDistinct xs → (Contains xs x → ⊥) → IsDistinct (xs ++ x ∷ [])
distinct_push [] x d n = (λ c. absurd (omega (arith, c.1)), tt)
distinct_push (y ∷ ys) x d n = (
  λ c. elim (Contains-push_cases ys x y c) [
    | inl old ↦ d.0 old
    | inr same ↦ n (subst (λ z. Contains (y ∷ ys) z) (sym same) (contains_here y ys))
  ],
  distinct_push ys x d.1 (λ c. n (contains_there y ys x c)),
)

-- ---- one more split

-- the same but for more splits
abbrev pub with_split : Findings → PackedSplit → Findings
with_split f split = record { kernels = f.kernels; nodes = f.nodes; links = f.links; spans = f.spans; splits = f.splits ++ split ∷ []; owners = f.owners }

pub split_grows : (f : Findings) (split : PackedSplit) → Grows f (with_split f split)
split_grows f split = record {
  kernels = keeps_same f.kernels;
  nodes = keeps_same f.nodes;
  links = keeps_same f.links;
  spans = keeps_same f.spans;
  splits = λ other c. Contains-append_left f.splits (split ∷ []) other c;
  owners = keeps_same f.owners;
}

module _ (rules : List Rule) (tokens : List SymbolId) (f : Findings) (sound : IsSoundGraph rules tokens f) (split : PackedSplit) (trail : List ℕ) (top : ℕ)
    (told : IsFoundAlong rules f split trail top)
    (untold : (other : PackedSplit) → Contains f.splits other → other.rule ≡ split.rule → IsFoundAlong rules f other trail top → ⊥) where
  abbrev g : Findings
  g = with_split f split

  grows : Grows f (with_split f split)
  grows = split_grows f split

  pub split_joins : IsSoundGraph rules tokens (with_split f split)
  split_joins = record {
    one_state = sound.one_state;
    one_node = sound.one_node;
    begun = node_grows f g grows sound.begun;
    nodes = sound.nodes;
    rising = sound.rising;
    links = λ link edge e. link_stays rules tokens f g sound grows (sound.links link edge e);
    one_link = sound.one_link;
    owned = sound.owned;
    owners = λ span owner e. owner_stays rules tokens f g sound grows (sound.owners span owner e);
    told = λ other c. elim (Contains-push_cases f.splits split other c) [
      | inl old ↦ let (trail', top', is) = sound.told other old in (trail', top', told_grows f g grows is)
      | inr same ↦ subst (λ (s : PackedSplit). (way : List ℕ) × (upper : ℕ) × IsFoundAlong rules g s way upper) same (trail, top, told_grows f g grows told)
    ];
    distinct = distinct_push f.splits split sound.distinct (λ c. untold split c refl told);
  }

-- what is noted of a level and of openers does not look at splits
pub split_level : (f : Findings) (split : PackedSplit) (at first_node first_link : ℕ) → IsLevel f at first_node first_link
    → IsLevel (with_split f split) at first_node first_link
split_level f split at first_node first_link level = record {
  nodes_within = level.nodes_within;
  links_within = level.links_within;
  nodes_before = level.nodes_before;
  nodes_here = level.nodes_here;
  links_before = level.links_before;
  links_here = level.links_here;
}

pub split_openers : (rules : List Rule) (f : Findings) (split : PackedSplit) (openers : List ℕ) (at : ℕ) → AreOpeners rules f openers at
    → AreOpeners rules (with_split f split) openers at
split_openers rules f split openers at are = record {
  size = are.size;
  each = λ i node e.
      let is = are.each i node e in
      record {
        within = is.within;
        behind = is.behind;
        none_before = λ other kernel n l. is.none_before other kernel (record { state = n.state; there = n.there; is_kernel = n.is_kernel }) l;
      };
}

-- what is packed is told by its spans and splits
pub packed_with : (packed : Packed) (spans : List Span) (splits : List PackedSplit) → packed.spans ≡ spans → packed.splits ≡ splits
    → record { spans = spans; splits = splits } ≡ packed
packed_with packed spans splits e g =
    sym (ap (λ ss. let it : Packed = record { spans = ss; splits = packed.splits } in it) e
    ∙ ap (λ ts. let it : Packed = record { spans = spans; splits = ts } in it) g)

-- a parser with one more split is sound
pub split_sound : (rules : List Rule) (tokens : List SymbolId) (p : Parser) → IsSoundParser rules tokens p → (split : PackedSplit) (trail : List ℕ) (top : ℕ)
    → IsFoundAlong rules (found p) split trail top
    → ((other : PackedSplit) → Contains p.spans.splits other → other.rule ≡ split.rule → IsFoundAlong rules (found p) other trail top → ⊥)
    → (packed : Packed) (parts : Vec ℕ Global) → packed.spans ≡ p.spans.spans → packed.splits ≡ p.spans.splits ++ split ∷ []
    → IsSoundParser rules tokens (record p { spans = packed; parts = parts })
split_sound rules tokens p sound split trail top told untold packed parts spans splits =
    let joined : IsSoundParser rules tokens (record p { spans = record { spans = p.spans.spans; splits = p.spans.splits ++ split ∷ [] }; parts = parts }) =
    record {
      numbered = sound.numbered;
      terminals = sound.terminals;
      expanded = sound.expanded;
      graph = split_joins rules tokens (found p) sound.graph split trail top told untold;
      level = split_level (found p) split p.level.at p.level.first_node p.level.first_link sound.level;
      openers = split_openers rules (found p) split p.openers.items p.level.at sound.openers;
      flat = sound.flat;
      spans_below = sound.spans_below;
    } in
    subst (λ (k : Packed). IsSoundParser rules tokens (record p { spans = k; parts = parts }))
    (packed_with packed p.spans.spans (p.spans.splits ++ split ∷ []) spans splits) joined

-- all that was found stays beside the split
pub split_found : (p : Parser) (split : PackedSplit) (packed : Packed) (parts : Vec ℕ Global) → packed.spans ≡ p.spans.spans
    → packed.splits ≡ p.spans.splits ++ split ∷ [] → with_split (found p) split ≡ found (record p { spans = packed; parts = parts })
split_found p split packed parts spans splits =
    ap (λ (k : Packed). found (record p { spans = k; parts = parts }))
    (packed_with packed p.spans.spans (p.spans.splits ++ split ∷ []) spans splits)

-- ---- reductions

-- a reduction whose link did not make the span asks for no split
pub reduces_none : (rules : List Rule) (f : Findings) (reduction : Reduction) (lower : ℕ) (trail : List ℕ) (top at link label : ℕ)
    → IsLinkTo f link lower reduction.left at label → (slice_get f.owners label ≡ Some link → ⊥) → Reduces rules f f reduction lower trail top at
reduces_none rules f reduction lower trail top at link label is other = record {
  made = λ labels r. record { link = link; label = label; link_is = is; split = λ e. absurd (other e) };
  only = λ split c. inl c;
}

-- the split of a reduction by its link
abbrev pub split_of : Reduction → ℕ → List ℕ → PackedSplit
split_of reduction label labels = record { span = label; rule = reduction.rule; parts = labels }

pub reduces_one : (rules : List Rule) (f : Findings) (reduction : Reduction) (lower : ℕ) (trail : List ℕ) (top at link label : ℕ)
    → IsLinkTo f link lower reduction.left at label → IsFoundAlong rules f (split_of reduction label (labels_of f.links trail)) trail top
    → Reduces rules f (with_split f (split_of reduction label (labels_of f.links trail))) reduction lower trail top at
reduces_one rules f reduction lower trail top at link label is told =
    let split = split_of reduction label (labels_of f.links trail) in
    let g = with_split f split in
    record {
      made = λ labels r. record {
        link = link;
        label = label;
        link_is = link_grows f g (split_grows f split) is;
        split = λ e. subst (λ ns. Contains (f.splits ++ split ∷ []) (split_of reduction label ns)) (sym (labels_are r.along)) (Contains-push f.splits split);
      };
      only = λ other c. elim (Contains-push_cases f.splits split other c) [
        | inl old ↦ inl old
        | inr same ↦ inr (
          ap (λ (s : PackedSplit). s.rule) (sym same),
          subst (λ (s : PackedSplit). IsFoundAlong rules g s trail top) same (told_grows f g (split_grows f split) told),
        )
      ];
    }

-- the reduction is told by the link that made the span
pub is_told : (rules : List Rule) (f : Findings) (reduction : Reduction) (lower : ℕ) (trail : List ℕ) (top at link label : ℕ)
    → IsLinkTo f link lower reduction.left at label → slice_get f.owners label ≡ Some link → {labels : List ℕ}
    → IsReducible rules f reduction lower trail labels top at → IsFoundAlong rules f (split_of reduction label (labels_of f.links trail)) trail top
is_told rules f reduction lower trail top at link label is owns {labels} r = record {
  reduction = reduction;
  number = refl;
  owner = link;
  lower = lower;
  at = at;
  owns = owns;
  owner_is = is;
  reducible = subst (λ ns. IsReducible rules f reduction lower trail ns top at) (labels_are r.along) r;
}

-- ---- where more was found, but no split

module _ (rules : List Rule) (tokens : List SymbolId) (f g : Findings) (sound : IsSoundGraph rules tokens f) (numbers : IsNumbered rules)
    (sound' : IsSoundGraph rules tokens g) (grows : Grows f g) (same : g.splits ≡ f.splits) where
  -- a split that is told now was told before, along the same trail
  pub told_before : (split : PackedSplit) (trail : List ℕ) (top : ℕ) → Contains f.splits split → IsFoundAlong rules g split trail top
      → IsFoundAlong rules f split trail top
  told_before split trail top c told =
      let (trail', top', is) = sound.told split c in
      let (trails, tops) = one_told rules tokens g sound' numbers told (told_grows f g grows is) in
      subst (λ ns. IsFoundAlong rules f split ns top) (sym trails) (subst (λ n. IsFoundAlong rules f split trail' n) (sym tops) is)

  pub still_to_reduce : {reduction : Reduction} {lower : ℕ} {trail : List ℕ} {top at : ℕ} → IsToReduce rules f reduction lower trail top at
      → IsToReduce rules g reduction lower trail top at
  still_to_reduce {trail = trail} {top = top} r = record {
    labels = r.labels;
    reducible = partial_grows f g grows r.reducible;
    untold = λ split c rule told.
        let was = subst (λ ss. Contains ss split) same c in
        r.untold split was rule (told_before split trail top was told);
  }

  pub reduces_on : {h : Findings} {reduction : Reduction} {lower : ℕ} {trail : List ℕ} {top at : ℕ} → Reduces rules g h reduction lower trail top at
      → Reduces rules f h reduction lower trail top at
  reduces_on r = record {
    made = λ labels is. r.made labels (partial_grows f g grows is);
    only = λ split c. elim (r.only split c) [
      | inl old ↦ inl (subst (λ ss. Contains ss split) same old)
      | inr new ↦ inr new
    ];
  }
