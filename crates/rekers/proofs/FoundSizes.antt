-- The links and splits that were found are some of those of the rules and the text, each once, and at the end they are all.
use Rattle.std.proofs.Common.{◌≡◌, ℕ, suc, ◌+◌, ◌<◌, ◌≤◌, inl, inr, List, [], ◌∷◌}
use Rattle.std.proofs.Common.{length, map, get_or, refl, sym, ◌∙◌, ap, subst, arith, Contains, slice_get, Some}
use Rattle.std.proofs.lemmas.Option.{slice_get_read, get_or_from_slice_get}
use Rattle.std.proofs.lemmas.List.{length-map, get_or_past}
use Rattle.forest.specs.declared.symbols.SymbolId.{SymbolId}
use Rattle.forest.specs.declared.symbols.TheConstants.{START}
use Rattle.forest.specs.declared.rules.RuleId.{RuleId}
use Rattle.forest.specs.declared.rules.Rule.{Rule}
use Rattle.forest.specs.declared.nodes.Split.{Split}
use Rattle.forest.specs.Derivation.{Derives, by_rule, IsNonterminal}
use Rattle.forest.specs.Distinct.{IsDistinct}
use Rattle.forest.proofs.Derivations.{Along-within}
use Rattle.edit_log.proofs.PlainLists.{contains_map, contains_map_from, contains_at, distinct_places}
use Rattle.item_sets.specs.declared.item.Item.{Item}
use Rattle.item_sets.specs.Expansions.{HasMove}
use Rattle.item_sets.proofs.Numbering.{IsNumbered}
use Rattle.gss.specs.declared.stack_graph.Place.{Place}
use Rattle.gss.specs.declared.stack_graph.Edge.{Edge}
use Rattle.gss.specs.PlaceGraphs.{place_with, edge_of}
use Rattle.packed_spans.specs.declared.span.Span.{Span}
use Rattle.packed_spans.specs.declared.span.TheConstants.{TOKEN_PART}
use Rattle.packed_spans.specs.Packed.{PackedSplit}
use Rattle.packed_spans.specs.Complete.{IsPartAt, StandsAlong, no_parts, next_part, TellsSplit}
use Rattle.rekers.specs.Size.{StateLink, IsLink, IsVisited, AreSome, IsSize, IsAbove}
use Rattle.rekers.specs.Found.{Findings, IsNode}
use Rattle.rekers.specs.Sound.{IsSoundGraph, state_link_of}
use Rattle.rekers.proofs.Growth.{one_at}
use Rattle.rekers.proofs.Sound.{move_on_left}
use Rattle.rekers.proofs.Trails.{part_cases}
use Rattle.rekers.proofs.Whole.{IsDone, same_node, linked_part, all_placed, all_linked, links_over}
use Rattle.rekers.proofs.FoundSpans.{span_of, IsKnown, known, different, packed}

-- ---- lists

-- a list whose elements are told apart by their images is mapped to a list in which none comes twice
distinct_images : {X Y : Type 0} (g : X → Y) (xs : List X)
    → ((a b : ℕ) (x y : X) → slice_get xs a ≡ Some x → slice_get xs b ≡ Some y → g x ≡ g y → a ≡ b) → IsDistinct (map g xs)
distinct_images g [] one = tt
distinct_images g (x ∷ xs) one = (
  λ c.
      let at = contains_map_from g xs (g x) c in
      let (k, below, is) = at.there in
      let there = slice_get_read xs (length xs) k at.from refl below (sym is) in
      absurd (omega (arith, one 0 (suc k) x at.from refl there (sym at.is))),
  distinct_images g xs (λ a b y z e h same. omega (arith, one (suc a) (suc b) y z e h same)),
)

at_of : {X : Type 0} (xs : List X) (x : X) → Contains xs x → (k : ℕ) × (slice_get xs k ≡ Some x)
at_of xs x (k, below, is) = (k, slice_get_read xs (length xs) k x refl below (sym is))

-- ---- links

place_at : Findings → ℕ → Place
place_at f node = get_or f.nodes node (place_with 0 0)

kernel_at : Findings → ℕ → List Item
kernel_at f node = get_or f.kernels (place_at f node).state []

-- the link that the edge is
link_in : Findings → Edge → StateLink
link_in f edge = state_link_of (kernel_at f edge.lower) (place_at f edge.lower).at edge.symbol (kernel_at f edge.upper) (place_at f edge.upper).at

node_reads : (f : Findings) (node : ℕ) (s : List Item) (i : ℕ) → IsNode f node s i → (kernel_at f node ≡ s) × ((place_at f node).at ≡ i)
unfolding kernel_at place_at
node_reads f node s i n =
    let place : place_at f node ≡ place_with n.state i = get_or_from_slice_get f.nodes node (place_with n.state i) (place_with 0 0) n.there in
    let state : (place_at f node).state ≡ n.state = ap (λ (p : Place). p.state) place in (
      ap (λ k. get_or f.kernels k []) state ∙ get_or_from_slice_get f.kernels n.state s [] n.is_kernel,
      ap (λ (p : Place). p.at) place,
    )

link_reads : (f : Findings) (upper lower label : ℕ) (x : SymbolId) (s v : List Item) (i j : ℕ) → IsNode f lower s i → IsNode f upper v j
    → link_in f (edge_of upper x lower label) ≡ state_link_of s i x v j
unfolding link_in
link_reads f upper lower label x s v i j n m =
    let (below, from) = node_reads f lower s i n in
    let (above, to) = node_reads f upper v j m in
    ap (λ t. state_link_of t (place_at f lower).at x (kernel_at f upper) (place_at f upper).at) below
    ∙ ap (λ k. state_link_of s k x (kernel_at f upper) (place_at f upper).at) from
    ∙ ap (λ t. state_link_of s i x t (place_at f upper).at) above
    ∙ ap (λ k. state_link_of s i x v k) to

-- an edge with the link that it is
record IsRead (rules : List Rule) (tokens : List SymbolId) (f : Findings) (edge : Edge) : Type 0 where
  lower : List Item
  from : ℕ
  lower_is : IsNode f edge.lower lower from
  upper : List Item
  to : ℕ
  upper_is : IsNode f edge.upper upper to
  is : link_in f edge ≡ state_link_of lower from edge.symbol upper to
  link : IsLink rules tokens (state_link_of lower from edge.symbol upper to)

module _ (rules : List Rule) (tokens : List SymbolId) (f : Findings) (graph : IsSoundGraph rules tokens f) where
  reads : (number : ℕ) (edge : Edge) → slice_get f.links number ≡ Some edge → IsRead rules tokens f edge
  reads number edge e =
      let b = graph.links number edge e in
      record {
        lower = b.ends.lower;
        from = b.ends.from;
        lower_is = b.ends.lower_is;
        upper = b.ends.upper;
        to = b.ends.to;
        upper_is = b.ends.upper_is;
        is = link_reads f edge.upper edge.lower edge.label edge.symbol b.ends.lower b.ends.upper b.ends.from b.ends.to b.ends.lower_is b.ends.upper_is;
        link = b.link;
      }

  one_edge : (a b : ℕ) (x y : Edge) → slice_get f.links a ≡ Some x → slice_get f.links b ≡ Some y → link_in f x ≡ link_in f y → a ≡ b
  one_edge a b x y e g same =
      let p = reads a x e in
      let q = reads b y g in
      let links : state_link_of p.lower p.from x.symbol p.upper p.to ≡ state_link_of q.lower q.from y.symbol q.upper q.to = sym p.is ∙ same ∙ q.is in
      let from : q.from ≡ p.from = ap (λ (l : StateLink). l.from) (sym links) in
      let kernel : q.lower ≡ p.lower = ap (λ (l : StateLink). l.lower) (sym links) in
      let other : IsNode f y.lower p.lower p.from =
      subst (λ t. IsNode f y.lower t p.from) kernel (subst (λ k. IsNode f y.lower q.lower k) from q.lower_is) in
      graph.one_link a b x y _ _ e g (same_node rules tokens f graph p.lower_is other) (ap (λ
      (l : StateLink). l.symbol) links) p.upper_is.there q.upper_is.there
      (ap (λ (l : StateLink). l.to) links)

  -- the links that were found are some of the links
  some_links : AreSome (map (link_in f) f.links) (IsLink rules tokens)
  some_links = record {
    distinct = distinct_images (link_in f) f.links one_edge;
    within = λ link c.
        let at = contains_map_from (link_in f) f.links link c in
        let (number, e) = at_of f.links at.from at.there in
        let p = reads number at.from e in
        subst (λ l. IsLink rules tokens l) (sym p.is ∙ at.is) p.link;
  }

-- ---- splits

-- where a part ends that begins here: a token ends at the next place
end_of : List Span → ℕ → ℕ → ℕ
end_of spans from label = (get_or spans label (span_of START from (suc from))).to

ends_of : List Span → ℕ → List ℕ → List ℕ
ends_of spans from [] = []
ends_of spans from (label ∷ labels) = end_of spans from label ∷ ends_of spans (end_of spans from label) labels

start_of : Findings → PackedSplit → ℕ
start_of f split = (get_or f.spans split.span (span_of START 0 0)).from

-- the split that the packed split tells
split_in : Findings → PackedSplit → Split
split_in f split = record { rule = split.rule; cuts = start_of f split ∷ ends_of f.spans (start_of f split) split.parts }

end_reads : {rules : List Rule} {tokens : List SymbolId} (spans : List Span) → length spans ≤ TOKEN_PART → {x : SymbolId} {i label j : ℕ}
    → IsPartAt rules tokens spans x i label j → end_of spans i label ≡ j
unfolding end_of
end_reads spans few {x} {i} {label} {j} p = elim (part_cases p) [
  | inl t ↦
      let past : get_or spans label (span_of START i (suc i)) ≡ span_of START i (suc i) = get_or_past spans label _ (omega (arith, t.3, few)) in
      ap (λ (s : Span). s.to) past ∙ sym t.2
  | inr s ↦ ap (λ (s : Span). s.to) (get_or_from_slice_get spans label _ (span_of START i (suc i)) s.1)
]

ends_read : {rules : List Rule} {tokens : List SymbolId} (spans : List Span) → length spans ≤ TOKEN_PART → {xs : List SymbolId} {i j : ℕ} {parts cuts : List ℕ}
    → StandsAlong rules tokens spans xs i parts cuts j → ends_of spans i parts ≡ cuts
unfolding ends_of
ends_read spans few no_parts = refl
ends_read spans few (next_part {i = i} {k = k} {part = label} {parts = parts} {cuts = cuts} p s) =
    let here : end_of spans i label ≡ k = end_reads spans few p in
    ap (λ n. n ∷ ends_of spans n parts) here ∙ ap (λ ns. k ∷ ns) (ends_read spans few s)

-- the parts of a split, and its end, are told by its symbols and cuts
one_part : {rules : List Rule} {tokens : List SymbolId} {spans : List Span} {x : SymbolId} {i j m n : ℕ}
    → ((a b : ℕ) (span : Span) → slice_get spans a ≡ Some span → slice_get spans b ≡ Some span → a ≡ b)
    → IsPartAt rules tokens spans x i m j → IsPartAt rules tokens spans x i n j → m ≡ n
one_part {m = m} {n = n} apart p q = elim (part_cases p) [
  | inl t ↦ elim (part_cases q) [ inl u ↦ t.3 ∙ sym u.3 | inr s ↦ absurd (t.0 s.0) ]
  | inr s ↦ elim (part_cases q) [ inl u ↦ absurd (u.0 s.0) | inr r ↦ apart m n _ s.1 r.1 ]
]

one_stand : {rules : List Rule} {tokens : List SymbolId} {spans : List Span} {xs : List SymbolId} {i j k : ℕ} {parts others cuts : List ℕ}
    → ((a b : ℕ) (span : Span) → slice_get spans a ≡ Some span → slice_get spans b ≡ Some span → a ≡ b)
    → StandsAlong rules tokens spans xs i parts cuts j → StandsAlong rules tokens spans xs i others cuts k → (parts ≡ others) × (j ≡ k)
one_stand apart no_parts no_parts = (refl, refl)
one_stand apart (next_part {part = m} {parts = ms} p s) (next_part {part = n} {parts = ns} q t) =
    let (rest, end) = one_stand apart s t in
    (ap (λ z. z ∷ ms) (one_part apart p q) ∙ ap (λ zs. n ∷ zs) rest, end)

abbrev split_by : RuleId → List ℕ → Split
split_by rule cuts = record { rule = rule; cuts = cuts }

abbrev packed_by : ℕ → RuleId → List ℕ → PackedSplit
packed_by span rule parts = record { span = span; rule = rule; parts = parts }

tells_read : (rules : List Rule) (tokens : List SymbolId) (f : Findings) → length f.spans ≤ TOKEN_PART → (split : PackedSplit) (rule : Rule) (cuts : List ℕ)
    (t : TellsSplit rules tokens f.spans rule cuts split) → split_in f split ≡ split_by rule.number (t.span.from ∷ cuts)
unfolding split_in start_of
tells_read rules tokens f few split rule cuts t =
    let start : start_of f split ≡ t.span.from =
    ap (λ (s : Span). s.from) (get_or_from_slice_get f.spans split.span t.span (span_of START 0 0) t.at) in
    ap (λ n. split_by split.rule (n ∷ ends_of f.spans n split.parts)) start
    ∙ ap (λ ns. split_by split.rule (t.span.from ∷ ns)) (ends_read f.spans few t.along)
    ∙ ap (λ r. split_by r (t.span.from ∷ cuts)) (sym t.number)

module _ (rules : List Rule) (tokens : List SymbolId) (f : Findings) (numbers : IsNumbered rules) (graph : IsSoundGraph rules tokens f)
    (few : length f.spans ≤ TOKEN_PART) where
  split_reads : (split : PackedSplit) (k : IsKnown rules tokens f split) → split_in f split ≡ split_by k.rule.number (k.tells.span.from ∷ k.cuts)
  split_reads split k = tells_read rules tokens f few split k.rule k.cuts k.tells

  visited : (split : PackedSplit) (k : IsKnown rules tokens f split) → IsVisited rules tokens (split_by k.rule.number (k.tells.span.from ∷ k.cuts))
  visited split k = record {
    rule = k.rule;
    live = k.live;
    number = refl;
    from = k.tells.span.from;
    ends = k.cuts;
    cuts = refl;
    to = k.tells.span.to;
    along = k.derives;
    state = k.state;
    reached = k.reached;
    begun = k.begun;
  }

  -- packed splits that tell one split are one
  one_split : (a b : PackedSplit) → IsKnown rules tokens f a → IsKnown rules tokens f b → split_in f a ≡ split_in f b → a ≡ b
  one_split a b p q same =
      let splits = sym (split_reads a p) ∙ same ∙ split_reads b q in
      let number : p.rule.number ≡ q.rule.number = ap (λ (s : Split). s.rule) splits in
      let cuts : p.tells.span.from ∷ p.cuts ≡ q.tells.span.from ∷ q.cuts = ap (λ (s : Split). s.cuts) splits in
      let from : q.tells.span.from ≡ p.tells.span.from = cc in
      let ends : q.cuts ≡ p.cuts = cc in
      let rule : q.rule ≡ p.rule = numbers.same q.rule p.rule q.live p.live (sym number) in
      let along : StandsAlong rules tokens f.spans p.rule.right p.tells.span.from b.parts p.cuts q.tells.span.to =
      subst (λ (r : Rule). StandsAlong rules tokens f.spans r.right p.tells.span.from b.parts p.cuts q.tells.span.to) rule
      (subst (λ n. StandsAlong rules tokens f.spans q.rule.right n b.parts p.cuts q.tells.span.to) from
      (subst (λ ns. StandsAlong rules tokens f.spans q.rule.right q.tells.span.from b.parts ns q.tells.span.to) ends q.tells.along)) in
      let apart = different rules tokens f graph in
      let (parts, to) = one_stand apart p.tells.along along in
      let symbol : p.tells.span.symbol ≡ q.tells.span.symbol = sym p.tells.left ∙ sym (ap (λ (r : Rule). r.left) rule) ∙ q.tells.left in
      let spans : p.tells.span ≡ q.tells.span =
      ap (λ x. span_of x p.tells.span.from p.tells.span.to) symbol ∙ ap (λ n. span_of q.tells.span.symbol n p.tells.span.to) (sym from)
      ∙ ap (λ n. span_of q.tells.span.symbol q.tells.span.from n) to in
      let span : a.span ≡ b.span = apart a.span b.span q.tells.span (subst (λ s. slice_get f.spans a.span ≡ Some s) spans p.tells.at) q.tells.at in
      let named : a.rule ≡ b.rule = sym p.tells.number ∙ number ∙ q.tells.number in
      ap (λ n. packed_by n a.rule a.parts) span ∙ ap (λ r. packed_by b.span r a.parts) named ∙ ap (λ ps. packed_by b.span b.rule ps) parts

  some_splits : AreSome (map (split_in f) f.splits) (IsVisited rules tokens)
  some_splits = record {
    distinct = distinct_images (split_in f) f.splits (λ m n a b e g same.
        let p = known rules tokens f graph a (contains_at f.splits m a e) in
        let q = known rules tokens f graph b (contains_at f.splits n b g) in
        distinct_places f.splits m n b graph.distinct (subst (λ s. slice_get f.splits m ≡ Some s) (one_split a b p q same) e) g);
    within = λ split c.
        let at = contains_map_from (split_in f) f.splits split c in
        let k = known rules tokens f graph at.from at.there in
        subst (λ s. IsVisited rules tokens s) (sym (split_reads at.from k) ∙ at.is) (visited at.from k);
  }

  -- where there are more links and splits than the limit, the size is above it
  pub above : (limit : ℕ) → limit < length f.links + length f.splits → IsAbove rules tokens limit
  above limit more = record {
    links = map (link_in f) f.links;
    splits = map (split_in f) f.splits;
    some_links = some_links rules tokens f graph;
    some_splits = some_splits;
    more = omega (arith, more, length-map f.links (link_in f), length-map f.splits (split_in f));
  }

module _ (rules : List Rule) (tokens : List SymbolId) (f : Findings) (end : IsDone rules tokens f) (few : length f.spans ≤ TOKEN_PART) where
  link_found : (link : StateLink) → IsLink rules tokens link → Contains (map (link_in f) f.links) link
  link_found link is =
      let l = all_linked rules tokens f end link is in
      subst (λ k. Contains (map (link_in f) f.links) k)
      (link_reads f l.upper l.lower l.label link.symbol link.lower link.upper link.from link.to l.lower_is l.upper_is)
      (contains_map (link_in f) f.links _ (contains_at f.links l.link _ l.there))

  split_found : (split : Split) → IsVisited rules tokens split → Contains (map (split_in f) f.splits) split
  split_found split v =
      let node = all_placed rules tokens f end v.reached in
      let derived : Derives rules tokens v.rule.left v.from v.to = by_rule v.live v.along in
      let move : HasMove rules (Contains v.state) v.rule.left =
      move_on_left end.numbered v.state v.from v.rule v.reached v.live v.begun refl in
      let last : v.to ≤ length tokens = Along-within v.along (Along-within v.reached.derives (omega arith)) in
      let (w, l) = links_over rules tokens f end derived node last move in
      let nonterminal : IsNonterminal rules v.rule.left = (v.rule, v.live, refl) in
      let at : slice_get f.spans l.label ≡ Some (span_of v.rule.left v.from v.to) = elim (part_cases (linked_part rules tokens f end.graph l)) [
        | inl t ↦ absurd (t.0 nonterminal)
        | inr s ↦ s.1
      ] in
      let p = packed rules tokens f end l.label (span_of v.rule.left v.from v.to) at v.rule v.live refl v.ends v.along in
      let spans : p.tells.span ≡ span_of v.rule.left v.from v.to = one_at f.spans l.label _ _
      (subst (λ n. slice_get f.spans n ≡ Some p.tells.span) p.of p.tells.at) at in
      let from : p.tells.span.from ≡ v.from = ap (λ (s : Span). s.from) spans in
      let is : split_in f p.split ≡ split =
      tells_read rules tokens f few p.split v.rule v.ends p.tells
      ∙ ap (λ n. split_by v.rule.number (n ∷ v.ends)) from
      ∙ ap (λ r. split_by r (v.from ∷ v.ends)) v.number
      ∙ ap (λ ns. split_by split.rule ns) (sym v.cuts) in
      subst (λ s. Contains (map (split_in f) f.splits) s) is (contains_map (split_in f) f.splits p.split p.there)

  -- at the end they are all: they make the size
  pub size : IsSize rules tokens (length f.links + length f.splits)
  size = record {
    links = map (link_in f) f.links;
    splits = map (split_in f) f.splits;
    all_links =
        let some = some_links rules tokens f end.graph in
        record { distinct = some.distinct; within = some.within; all = link_found };
    all_splits =
        let some = some_splits rules tokens f end.numbered end.graph few in
        record { distinct = some.distinct; within = some.within; all = split_found };
    sum = omega (arith, length-map f.links (link_in f), length-map f.splits (split_in f));
  }
