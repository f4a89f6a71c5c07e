-- A table stays one when a span or a split is added.
use Rattle.std.proofs.Common.{◌≡◌, ℕ, ◌+◌, ◌<◌, ◌≤◌, nat_le, inl, inr, Bool, true, false, cond, List, []}
use Rattle.std.proofs.Common.{◌∷◌, ◌++◌, map, take, drop, set, length, refl, sym, ◌∙◌, ap, subst, arith, slice_get, Some}
use Rattle.std.proofs.lemmas.Bool.{cases_eq, leb-false}
use Rattle.std.proofs.lemmas.List.{length-set, length_push, map_push, length-append, length-map, length-drop, take-append-le, drop-append-le}
use Rattle.std.proofs.lemmas.Option.{slice_get_within}
use Rattle.forest.specs.declared.rules.RuleId.{RuleId}
use Rattle.packed_spans.specs.declared.span.Span.{Span}
use Rattle.packed_spans.specs.declared.span.TheConstants.{TOKEN_PART}
use Rattle.packed_spans.specs.declared.table.SpanRow.{SpanRow}
use Rattle.packed_spans.specs.declared.table.SplitRow.{SplitRow}
use Rattle.packed_spans.specs.declared.table.TheConstants.{INLINE_PARTS}
use Rattle.packed_spans.specs.Packed.{PackedSplit, ArePartsOf}
use Rattle.packed_spans.specs.Tables.{parts_in, row_split, row_span, IsSplitLink, IsStored, IsTable, IsSplitRowOf}
use Rattle.packed_spans.proofs.Lists.{one_at, at_push, at_set, at_other, map_kept, map_same}

-- ---- parts behind the others

pub parts_kept : (parts more : List ℕ) (row : SplitRow) → (INLINE_PARTS < row.length → row.first + row.length ≤ length parts)
    → parts_in (parts ++ more) row ≡ parts_in parts row
parts_kept parts more row room = by (nat_le row.length INLINE_PARTS) refl
  where
    by : (few : Bool) → nat_le row.length INLINE_PARTS ≡ few
        → cond few (take row.length (row.first ∷ row.second ∷ [])) (take row.length (drop row.first (parts ++ more)))
        ≡ cond few (take row.length (row.first ∷ row.second ∷ [])) (take row.length (drop row.first parts))
    by true e = refl
    by false e =
        let many : INLINE_PARTS < row.length = omega (arith, leb-false row.length INLINE_PARTS e) in
        let there : row.first + row.length ≤ length parts = room many in
        ap (take row.length) (drop-append-le row.first parts more (omega arith)) ∙ take-append-le row.length (drop row.first parts) more
        (omega (arith, length-drop row.first parts))

stored_kept : (spans : List SpanRow) (parts more : List ℕ) (row : SplitRow) → IsStored spans parts row → IsStored spans (parts ++ more) row
stored_kept spans parts more row s = record {
  room = λ many. let there : row.first + row.length ≤ length parts = s.room many in omega (arith, length-append parts more);
  are_parts = subst (ArePartsOf (map row_span spans)) (sym (parts_kept parts more row s.room)) s.are_parts;
  known = s.known;
}

pub table_grows : (spans : List SpanRow) (splits : List SplitRow) (parts more : List ℕ) → IsTable spans splits parts → IsTable spans splits (parts ++ more)
table_grows spans splits parts more t = record {
  few = t.few;
  newest = t.newest;
  older = t.older;
  stored = λ k row e. stored_kept spans parts more row (t.stored k row e);
}

pub splits_kept : (spans : List SpanRow) (splits : List SplitRow) (parts more : List ℕ) → IsTable spans splits parts
    → map (row_split (parts ++ more)) splits ≡ map (row_split parts) splits
splits_kept spans splits parts more t = map_same (row_split (parts ++ more)) (row_split parts) splits
    (λ k row e. ap (λ ps. let s : PackedSplit = record { span = row.span; rule = row.rule; parts = ps } in s)
    (parts_kept parts more row (t.stored k row e).room))

-- ---- one more span

stored_wider : (spans : List SpanRow) (parts : List ℕ) (added : SpanRow) (row : SplitRow) → IsStored spans parts row
    → IsStored (spans ++ added ∷ []) parts row
stored_wider spans parts added row s = record {
  room = s.room;
  are_parts = λ part c. elim (s.are_parts part c) [
    | inl e ↦ inl e
    | inr l ↦ inr (omega (arith, length-map spans row_span, length-map (spans ++ added ∷ []) row_span, length_push spans added))
  ];
  known = omega (arith, s.known, length_push spans added);
}

pub span_added : (spans : List SpanRow) (splits : List SplitRow) (parts : List ℕ) (span : Span) → length spans < TOKEN_PART → IsTable spans splits parts
    → IsTable (spans ++ record { span = span; newest = 0; count = 0 } ∷ []) splits parts
span_added spans splits parts span room t =
    let added : SpanRow = record { span = span; newest = 0; count = 0 } in
    record {
      few = omega (arith, length_push spans added);
      newest = λ n row e. elim (at_push spans added n row e) [
        | inl was ↦ t.newest n row was
        | inr (end, is) ↦ subst (λ (r : SpanRow). IsSplitLink splits n (length splits) r.newest) is (record {
          low = omega arith;
          above = λ k r low high at of. let known = (t.stored k r at).known in absurd (omega arith);
          here = λ k r one at. absurd (omega arith);
        })
      ];
      older = t.older;
      stored = λ k row e. stored_wider spans parts added row (t.stored k row e);
    }

-- ---- one more split

link_kept : (splits : List SplitRow) (added : SplitRow) (span limit link : ℕ) → limit ≤ length splits → IsSplitLink splits span limit link
    → IsSplitLink (splits ++ added ∷ []) span limit link
link_kept splits added span limit link within i = record {
  low = i.low;
  above = λ k row over under at of. elim (at_push splits added k row at) [
    | inl was ↦ i.above k row over under was of
    | inr (end, is) ↦ absurd (omega arith)
  ];
  here = λ k row one at. elim (at_push splits added k row at) [ inl was ↦ i.here k row one was | inr (end, is) ↦ absurd (omega (arith, i.low)) ];
}

link_passes : (splits : List SplitRow) (added : SplitRow) (span link : ℕ) → (added.span ≡ span → ⊥) → IsSplitLink splits span (length splits) link
    → IsSplitLink (splits ++ added ∷ []) span (length (splits ++ added ∷ [])) link
link_passes splits added span link other i = record {
  low = omega (arith, i.low, length_push splits added);
  above = λ k row over under at of. elim (at_push splits added k row at) [
    | inl was ↦ i.above k row over (slice_get_within splits k row was) was of
    | inr (end, is) ↦ other (ap (λ (r : SplitRow). r.span) is ∙ of)
  ];
  here = λ k row one at. elim (at_push splits added k row at) [ inl was ↦ i.here k row one was | inr (end, is) ↦ absurd (omega (arith, i.low)) ];
}

link_newest : (splits : List SplitRow) (added : SplitRow)
    → IsSplitLink (splits ++ added ∷ []) added.span (length (splits ++ added ∷ [])) (length splits + 1)
link_newest splits added = record {
  low = omega (arith, length_push splits added);
  above = λ k row over under at of. absurd (omega (arith, length_push splits added));
  here = λ k row one at. elim (at_push splits added k row at) [
    | inl was ↦ let within = slice_get_within splits k row was in absurd (omega arith)
    | inr (end, is) ↦ ap (λ (r : SplitRow). r.span) (sym is)
  ];
}

stored_same : (spans after : List SpanRow) (parts : List ℕ) (row : SplitRow) → length after ≡ length spans → map row_span after ≡ map row_span spans
    → IsStored spans parts row → IsStored after parts row
stored_same spans after parts row size same s = record {
  room = s.room;
  are_parts = subst (λ ss. ArePartsOf ss (parts_in parts row)) (sym same) s.are_parts;
  known = omega (arith, s.known);
}

module _ (spans : List SpanRow) (splits : List SplitRow) (parts : List ℕ) (t : IsTable spans splits parts) (row : SplitRow) (was now : SpanRow)
    (at : slice_get spans row.span ≡ Some was) (span : now.span ≡ was.span) (link : now.newest ≡ length splits + 1) (older : row.older ≡ was.newest)
    (stored : IsStored spans parts row) where
  pub spans_stay : map row_span (set spans row.span now) ≡ map row_span spans
  spans_stay = map_kept row_span spans row.span was now at span

  newest_after : (n : ℕ) (r : SpanRow) → slice_get (set spans row.span now) n ≡ Some r
      → IsSplitLink (splits ++ row ∷ []) n (length (splits ++ row ∷ [])) r.newest
  newest_after n r e = elim (cases_eq n row.span) [
    | inl same ↦
        let here : slice_get (set spans row.span now) row.span ≡ Some now = at_set spans row.span now (slice_get_within spans row.span was at) in
        let is : now ≡ r = one_at (set spans row.span now) row.span now r here (subst (λ k. slice_get (set spans row.span now) k ≡ Some r) same e) in
        let link_is : r.newest ≡ length splits + 1 = ap (λ (q : SpanRow). q.newest) (sym is) ∙ link in
        subst (λ k. IsSplitLink (splits ++ row ∷ []) k (length (splits ++ row ∷ [])) r.newest) (sym same)
        (subst (IsSplitLink (splits ++ row ∷ []) row.span (length (splits ++ row ∷ []))) (sym link_is) (link_newest splits row))
    | inr other ↦
        let before : slice_get spans n ≡ Some r = sym (at_other spans row.span n now other) ∙ e in
        link_passes splits row n r.newest (λ f. other (sym f)) (t.newest n r before)
  ]

  older_after : (k : ℕ) (r : SplitRow) → slice_get (splits ++ row ∷ []) k ≡ Some r → IsSplitLink (splits ++ row ∷ []) r.span k r.older
  older_after k r e = elim (at_push splits row k r e) [
    | inl before ↦
        let within = slice_get_within splits k r before in
        link_kept splits row r.span k r.older (omega arith) (t.older k r before)
    | inr (end, is) ↦
        let kept : IsSplitLink (splits ++ row ∷ []) row.span (length splits) was.newest =
        link_kept splits row row.span (length splits) was.newest (omega arith) (t.newest row.span was at) in
        let linked : IsSplitLink (splits ++ row ∷ []) row.span (length splits) row.older =
        subst (IsSplitLink (splits ++ row ∷ []) row.span (length splits)) (sym older) kept in
        subst (λ (q : SplitRow). IsSplitLink (splits ++ row ∷ []) q.span k q.older) is
        (subst (λ n. IsSplitLink (splits ++ row ∷ []) row.span n row.older) (sym end) linked)
  ]

  pub split_added : IsTable (set spans row.span now) (splits ++ row ∷ []) parts
  split_added =
      let size : length (set spans row.span now) ≡ length spans = length-set spans row.span now in
      record {
        few = omega (arith, t.few);
        newest = newest_after;
        older = older_after;
        stored = λ k r e. stored_same spans (set spans row.span now) parts r size spans_stay (elim (at_push splits row k r e) [
          | inl before ↦ t.stored k r before
          | inr (end, is) ↦ subst (IsStored spans parts) is stored
        ]);
      }

-- ---- as a split is added

module _ (spans : List SpanRow) (splits : List SplitRow) (parts after more : List ℕ) (grown : after ≡ parts ++ more) (t : IsTable spans splits parts) where
  pub table_after : IsTable spans splits after
  table_after = subst (IsTable spans splits) (sym grown) (table_grows spans splits parts more t)

  pub splits_stay : map (row_split after) splits ≡ map (row_split parts) splits
  splits_stay = ap (λ ps. map (row_split ps) splits) grown ∙ splits_kept spans splits parts more t

  module _ (span : ℕ) (rule : RuleId) (older : ℕ) (given : List ℕ) (row : SplitRow) (r : IsSplitRowOf span rule older given after row) where
    pub row_added : (was now : SpanRow) → slice_get spans span ≡ Some was → older ≡ was.newest → now.span ≡ was.span → now.newest ≡ length splits + 1
        → ArePartsOf (map row_span spans) given → IsTable (set spans span now) (splits ++ row ∷ []) after
    row_added was now at older_is span_is link_is are =
        let there : slice_get spans row.span ≡ Some was = ap (slice_get spans) r.of ∙ at in
        let known : row.span < length spans = slice_get_within spans row.span was there in
        let stored : IsStored spans after row =
        record { room = r.room; are_parts = subst (ArePartsOf (map row_span spans)) (sym r.same) are; known = known } in
        subst (λ n. IsTable (set spans n now) (splits ++ row ∷ []) after) r.of
        (split_added spans splits after table_after row was now there span_is link_is (r.link ∙ older_is) stored)

    pub splits_after : map (row_split after) (splits ++ row ∷ [])
        ≡ map (row_split parts) splits ++ (let s : PackedSplit = record { span = span; rule = rule; parts = given } in s) ∷ []
    splits_after =
        let one : row_split after row ≡ (let s : PackedSplit = record { span = span; rule = rule; parts = given } in s) =
        ap (λ n. let s : PackedSplit = record { span = n; rule = row.rule; parts = parts_in after row } in s) r.of ∙ ap
        (λ k. let s : PackedSplit = record { span = span; rule = k; parts = parts_in after row } in s) r.by ∙ ap
        (λ ps. let s : PackedSplit = record { span = span; rule = rule; parts = ps } in s) r.same in
        map_push (row_split after) splits row ∙ ap (λ ss. ss ++ row_split after row ∷ []) splits_stay ∙ ap (λ s. map (row_split parts) splits ++ s ∷ []) one
