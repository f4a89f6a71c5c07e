-- The forest that complete spans make.
use Rattle.std.proofs.Common.{◌≡◌, ℕ, zero, suc, ◌+◌, ◌≤◌, ◌==◌, Bool, true, false, cond, List}
use Rattle.std.proofs.Common.{◌∷◌, map, length, get_or, refl, sym, ◌∙◌, ap, subst, arith, Contains, slice_get, Some}
use Rattle.std.proofs.lemmas.Bool.{eqb-true}
use Rattle.std.proofs.lemmas.List.{length-map}
use Rattle.std.proofs.lemmas.Option.{slice_get_within, get_or_from_slice_get, same_Some}
use Rattle.forest.specs.declared.symbols.SymbolId.{SymbolId}
use Rattle.forest.specs.declared.symbols.TheConstants.{START}
use Rattle.forest.specs.declared.rules.Rule.{Rule}
use Rattle.forest.specs.declared.nodes.Split.{Split}
use Rattle.forest.specs.declared.nodes.Node.{Node}
use Rattle.forest.specs.declared.forest.Forest.{Forest}
use Rattle.forest.specs.Derivation.{Derives, DerivesAlong, token, done, part, IsNonterminal}
use Rattle.forest.specs.Forests.{IsSplit, IsPart, here, later, InForest, root, part_of, IsNodeOf, IsForestOf}
use Rattle.packed_spans.specs.declared.span.Span.{Span}
use Rattle.packed_spans.specs.declared.span.TheConstants.{TOKEN_PART}
use Rattle.packed_spans.specs.declared.table.SpanRow.{SpanRow}
use Rattle.packed_spans.specs.declared.table.SplitRow.{SplitRow}
use Rattle.packed_spans.specs.Packed.{PackedSplit}
use Rattle.packed_spans.specs.Complete.{IsPartAt, of_token, of_span, StandsAlong, no_parts, next_part, TellsSplit, IsComplete}
use Rattle.packed_spans.specs.Tables.{parts_in, row_split, row_span, packed_of, IsSplitRow}
use Rattle.packed_spans.specs.Told.{end_at, ends_in, ends_of, told}
use Rattle.packed_spans.specs.Marks.{IsPartNumber, Reaches, itself, below, MarksReached}
use Rattle.packed_spans.specs.Nodes.{IsNodeFor, AreNodesOf}
use Rattle.packed_spans.proofs.Lists.{one_at, contains_at, at_contained, map_at, map_from}
use Rattle.packed_spans.proofs.Cuts.{few_parts}

abbrev span_at : SymbolId → ℕ → ℕ → Span
span_at x i j = record { symbol = x; from = i; to = j }

module _ (rules : List Rule) (tokens : List SymbolId) (spans : List SpanRow) (few : length spans ≤ TOKEN_PART) where
  -- the number of a span stands for no token
  no_token_part : (n : ℕ) (span : Span) → slice_get (map row_span spans) n ≡ Some span → n ≡ TOKEN_PART → ⊥
  no_token_part n span at e =
      let within = slice_get_within (map row_span spans) n span at in
      absurd (omega (arith, length-map spans row_span))

  end_of_part : (x : SymbolId) (i p k : ℕ) → IsPartAt rules tokens (map row_span spans) x i p k → end_at spans i p ≡ k
  end_of_part x i p k (of_token e not_left) = omega arith
  end_of_part x i p k (of_span named at) =
      let (row, there, same) = map_from row_span spans p (span_at x i k) at in
      let ends : get_or (ends_in spans) p 0 ≡ row.span.to =
      get_or_from_slice_get (ends_in spans) p row.span.to 0 (map_at (λ (r : SpanRow). r.span.to) spans p row there) in
      by (p == TOKEN_PART) refl (ends ∙ ap (λ (s : Span). s.to) same)
    where
      by : (token_part : Bool) → (p == TOKEN_PART) ≡ token_part → get_or (ends_in spans) p 0 ≡ k → cond token_part (i + 1) (get_or (ends_in spans) p 0) ≡ k
      by true e ends = absurd (no_token_part p (span_at x i k) at (eqb-true p TOKEN_PART e))
      by false e ends = ends

  -- the cuts are where the parts end
  ends_along : {xs : List SymbolId} {i j : ℕ} {ps cuts : List ℕ} → StandsAlong rules tokens (map row_span spans) xs i ps cuts j → ends_of spans i ps ≡ cuts
  ends_along no_parts = refl
  ends_along (next_part {x = x} {i = i} {k = k} {part = p} {parts = ps} {cuts = cuts} at rest) =
      let end : end_at spans i p ≡ k = end_of_part x i p k at in
      ap (λ n. n ∷ ends_of spans n ps) end ∙ ap (λ cs. k ∷ cs) (ends_along rest)

  derives_along : ((n : ℕ) (span : Span) → slice_get (map row_span spans) n ≡ Some span → Derives rules tokens span.symbol span.from span.to)
      → {xs : List SymbolId} {i j : ℕ} {ps cuts : List ℕ} → StandsAlong rules tokens (map row_span spans) xs i ps cuts j
      → DerivesAlong rules tokens xs i cuts j
  derives_along each no_parts = done
  derives_along each (next_part (of_token e not_left) rest) = part (token e) (derives_along each rest)
  derives_along each (next_part {i = i} {k = k} (of_span {part = p} named at) rest) = part (each p _ at) (derives_along each rest)

  -- a span among the parts
  pub record IsSpanPart (xs : List SymbolId) (i : ℕ) (cuts : List ℕ) (n : ℕ) : Type 0 where
    pub x : SymbolId
    pub from : ℕ
    pub to : ℕ
    pub is_part : IsPart xs i cuts x from to
    pub named : IsNonterminal rules x
    pub at : slice_get (map row_span spans) n ≡ Some (span_at x from to)

  span_part : {xs : List SymbolId} {i j : ℕ} {ps cuts : List ℕ} → StandsAlong rules tokens (map row_span spans) xs i ps cuts j → (place n : ℕ)
      → slice_get ps place ≡ Some n → (n ≡ TOKEN_PART → ⊥) → IsSpanPart xs i cuts n
  span_part no_parts place n e not_token = absurd cc
  span_part (next_part (of_token t not_left) rest) zero n e not_token = let is : TOKEN_PART ≡ n = same_Some _ _ e in absurd (not_token (sym is))
  span_part (next_part {x = x} {i = i} {k = k} (of_span {part = p} named at) rest) zero n e not_token =
      let is : p ≡ n = same_Some _ _ e in
      record { x = x; from = i; to = k; is_part = here; named = named; at = subst (λ q. slice_get (map row_span spans) q ≡ Some (span_at x i k)) is at }
  span_part (next_part at rest) (suc place) n e not_token =
      let s = span_part rest place n e not_token in
      record { x = s.x; from = s.from; to = s.to; is_part = later s.is_part; named = s.named; at = s.at }

  -- the part that stands there
  part_span : {xs : List SymbolId} {i j : ℕ} {ps cuts : List ℕ} → StandsAlong rules tokens (map row_span spans) xs i ps cuts j → {y : SymbolId} {a b : ℕ}
      → IsPart xs i cuts y a b → IsNonterminal rules y
      → (n : ℕ) × ((place : ℕ) × (slice_get ps place ≡ Some n)) × (slice_get (map row_span spans) n ≡ Some (span_at y a b))
  part_span no_parts q named = elim q [ ]
  part_span (next_part (of_token t not_left) rest) here named = absurd (not_left named)
  part_span (next_part (of_span {part = p} has at) rest) here named = (p, (0, refl), at)
  part_span (next_part at rest) (later q) named = let (n, (place, e), there) = part_span rest q named in (n, (suc place, e), there)

module _ (rules : List Rule) (tokens : List SymbolId) (spans : List SpanRow) (splits : List SplitRow) (parts : List ℕ) (top : ℕ)
    (few : length spans ≤ TOKEN_PART) (complete : IsComplete rules tokens (packed_of spans splits parts) top) where
  -- what a row tells
  pub record IsSound (row : SplitRow) : Type 0 where
    pub rule : Rule
    pub live : Contains rules rule
    pub cuts : List ℕ
    pub tells : TellsSplit rules tokens (map row_span spans) rule cuts (row_split parts row)

  row_sound : (k : ℕ) (row : SplitRow) → slice_get splits k ≡ Some row → IsSound row
  row_sound k row at =
      let (rule, live, rest) = complete.sound (row_split parts row) (contains_at (map (row_split parts) splits) k (row_split parts row)
      (map_at (row_split parts) splits k row at)) in
      record { rule = rule; live = live; cuts = rest.0; tells = rest.1 }

  -- the row of a split of the span
  pub record HasRow (n : ℕ) (span : Span) (rule : Rule) (cuts : List ℕ) : Type 0 where
    pub number : ℕ
    pub row : SplitRow
    pub at : slice_get splits number ≡ Some row
    pub of : row.span ≡ n
    pub by : rule.number ≡ row.rule
    pub along : StandsAlong rules tokens (map row_span spans) rule.right span.from (parts_in parts row) cuts span.to

  row_there : (n : ℕ) (span : Span) → slice_get (map row_span spans) n ≡ Some span → (rule : Rule) → Contains rules rule → rule.left ≡ span.symbol
      → (cuts : List ℕ) → DerivesAlong rules tokens rule.right span.from cuts span.to → HasRow n span rule cuts
  row_there n span at rule live left cuts along =
      let (split, has, of, tells) = complete.whole n span at rule live left cuts along in
      let (row, there, is) = map_from (row_split parts) splits has.0 split (at_contained (map (row_split parts) splits) split has) in
      let here_too : slice_get (map row_span spans) n ≡ Some tells.span = ap (slice_get (map row_span spans)) (sym of) ∙ tells.at in
      let same : tells.span ≡ span = one_at (map row_span spans) n tells.span span here_too at in
      let stands = subst (λ (s : Span). StandsAlong rules tokens (map row_span spans) rule.right s.from split.parts cuts s.to) same tells.along in
      record {
        number = has.0;
        row = row;
        at = there;
        of = ap (λ (s : PackedSplit). s.span) is ∙ of;
        by = tells.number ∙ ap (λ (s : PackedSplit). s.rule) (sym is);
        along = subst (λ (s : PackedSplit). StandsAlong rules tokens (map row_span spans) rule.right span.from s.parts cuts span.to) (sym is) stands;
      }

  -- what is reached is in the forest
  reached_in : {n : ℕ} → Reaches splits parts top n → (span : Span) → slice_get (map row_span spans) n ≡ Some span
      → InForest rules tokens span.symbol span.from span.to
  reached_in itself span at =
      let same : span ≡ span_at START 0 (length tokens) = one_at (map row_span spans) top span (span_at START 0 (length tokens)) at complete.text in
      subst (λ (s : Span). InForest rules tokens s.symbol s.from s.to) (sym same) root
  reached_in (below {span = m} {n = n} r b) span at =
      let sound = row_sound b.number b.row b.at in
      let whole = sound.tells.span in
      let whole_at : slice_get (map row_span spans) m ≡ Some whole = ap (slice_get (map row_span spans)) (sym b.of) ∙ sound.tells.at in
      let above : InForest rules tokens whole.symbol whole.from whole.to = reached_in r whole whole_at in
      let above_left : InForest rules tokens sound.rule.left whole.from whole.to =
      subst (λ x. InForest rules tokens x whole.from whole.to) (sym sound.tells.left) above in
      let s = span_part rules tokens spans few sound.tells.along b.part.place n b.part.at b.part.no_token in
      let same : span_at s.x s.from s.to ≡ span = one_at (map row_span spans) n (span_at s.x s.from s.to) span s.at at in
      let within = part_of above_left sound.live (derives_along rules tokens spans few complete.derived sound.tells.along) s.is_part s.named in
      subst (λ (q : Span). InForest rules tokens q.symbol q.from q.to) same within

  -- what is in the forest is reached
  in_reached : {x : SymbolId} {i j : ℕ} → InForest rules tokens x i j
      → (n : ℕ) × Reaches splits parts top n × (slice_get (map row_span spans) n ≡ Some (span_at x i j))
  in_reached root = (top, itself, complete.text)
  in_reached (part_of {r = r} {i = i} {j = j} {cuts = cuts} f live along q named) =
      let (n, reached, at) = in_reached f in
      let has = row_there n (span_at r.left i j) at r live refl cuts along in
      let (m, (place, e), there) = part_span rules tokens spans few has.along q named in
      let within = slice_get_within (parts_in parts has.row) place m e in
      let is_part : IsPartNumber parts has.row has.row.length m = record {
        place = place;
        first = omega (arith, within, few_parts parts has.row);
        at = e;
        no_token = no_token_part rules tokens spans few m _ there;
      } in
      (m, below reached (record { number = has.number; row = has.row; later = omega arith; at = has.at; of = has.of; part = is_part }), there)

  -- a row of the span tells a split of it
  told_is_split : (n : ℕ) (span : Span) → slice_get (map row_span spans) n ≡ Some span → (row : SplitRow) → IsSplitRow splits n row
      → IsSplit rules tokens span.symbol span.from span.to (told spans parts span.from row)
  told_is_split n span at row is =
      let sound = row_sound is.number row is.at in
      let here_too : slice_get (map row_span spans) n ≡ Some sound.tells.span = ap (slice_get (map row_span spans)) (sym is.of) ∙ sound.tells.at in
      let same : sound.tells.span ≡ span = one_at (map row_span spans) n sound.tells.span span here_too at in
      let stands = subst (λ (s : Span). StandsAlong rules tokens (map row_span spans) sound.rule.right s.from (parts_in parts row) sound.cuts s.to) same
      sound.tells.along in
      record {
        rule = sound.rule;
        live = sound.live;
        number = sound.tells.number;
        left = sound.tells.left ∙ ap (λ (s : Span). s.symbol) same;
        ends = sound.cuts;
        cuts = ap (λ cs. span.from ∷ cs) (ends_along rules tokens spans few stands);
        along = derives_along rules tokens spans few complete.derived stands;
      }

  -- a split of the span is told by a row of it
  split_is_told : (n : ℕ) (span : Span) → slice_get (map row_span spans) n ≡ Some span → (split : Split)
      → IsSplit rules tokens span.symbol span.from span.to split → (row : SplitRow) × IsSplitRow splits n row × (told spans parts span.from row ≡ split)
  split_is_told n span at split is =
      let has = row_there n span at is.rule is.live is.left is.ends is.along in
      let cuts : span.from ∷ ends_of spans span.from (parts_in parts has.row) ≡ split.cuts =
      ap (λ cs. span.from ∷ cs) (ends_along rules tokens spans few has.along) ∙ sym is.cuts in
      let number = sym has.by ∙ is.number in
      let same : told spans parts span.from has.row ≡ split = ap
      (λ k. let s : Split = record { rule = k; cuts = span.from ∷ ends_of spans span.from (parts_in parts has.row) } in s) number ∙ ap
      (λ cs. let s : Split = record { rule = split.rule; cuts = cs } in s) cuts in
      (has.row, record { number = has.number; at = has.at; of = has.of }, same)

  -- the node of a reached span
  node_is : (n : ℕ) (node : Node) → Reaches splits parts top n → IsNodeFor spans splits parts n node → IsNodeOf rules tokens node
  node_is n node reached is =
      let span : Span = is.row.span in
      let at : slice_get (map row_span spans) n ≡ Some span = map_at row_span spans n is.row is.at in
      let node_span : span_at node.symbol node.from node.to ≡ span = ap (λ x. span_at x node.from node.to) is.symbol ∙ ap
      (λ i. span_at span.symbol i node.to) is.from ∙ ap (λ j. span_at span.symbol span.from j) is.to in
      record {
        within = subst (λ (s : Span). InForest rules tokens s.symbol s.from s.to) (sym node_span) (reached_in reached span at);
        order = is.exact.order;
        splits = λ split c.
            let (row, of, same) = is.exact.exact.sound split c in
            let split_is : IsSplit rules tokens span.symbol span.from span.to split =
            subst (IsSplit rules tokens span.symbol span.from span.to) same (told_is_split n span at row of) in
            subst (λ (s : Span). IsSplit rules tokens s.symbol s.from s.to split) (sym node_span) split_is;
        all = λ split split_is.
            let (row, of, same) = split_is_told n span at split (subst (λ (s : Span). IsSplit rules tokens s.symbol s.from s.to split) node_span split_is) in
            subst (Contains node.splits) same (is.exact.exact.whole of.number row (omega arith) of.at of.of);
      }

  pub forest_is : (marked : List Bool) (forest : Forest) → MarksReached splits parts top marked → AreNodesOf spans splits parts marked 0 forest.nodes
      → IsForestOf rules tokens forest
  forest_is marked forest reached nodes = record {
    derived = complete.derived top (span_at START 0 (length tokens)) complete.text;
    order = forest.ascending;
    each = λ node c. let (n, low, there, is) = nodes.sound node c in node_is n node (reached.sound n there) is;
    all = λ x i j f.
        let (n, r, at) = in_reached f in
        let (node, c, is) = nodes.whole n (omega arith) (reached.whole n r) in
        let same : is.row.span ≡ span_at x i j = one_at (map row_span spans) n is.row.span (span_at x i j) (map_at row_span spans n is.row is.at) at in
        (node, c, (is.symbol ∙ ap (λ (s : Span). s.symbol) same, is.from ∙ ap (λ (s : Span). s.from) same, is.to ∙ ap (λ (s : Span). s.to) same));
  }
