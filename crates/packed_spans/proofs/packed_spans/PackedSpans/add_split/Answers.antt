use Rattle.std.proofs.Common.{◌≡◌, ◌<◌, ◌+◌, ◌%◌, List, length, map, refl, sym, ◌∙◌, ap, subst, arith, slice_get, Some, ◌++◌, ◌∷◌, []}
use Rattle.std.proofs.lemmas.List.{length-map}
use Rattle.std.proofs.lemmas.Result.{err_from_is_err_and}
use Rattle.packed_spans.specs.declared.span.Span.{Span}
use Rattle.packed_spans.specs.declared.table.SpanRow.{SpanRow}
use Rattle.packed_spans.specs.Packed.{Packed, PackedSplit, ArePartsOf}
use Rattle.packed_spans.specs.Tables.{row_span}
use Rattle.packed_spans.proofs.Lists.{one_at, read_at, map_kept}
use Rattle.packed_spans.proofs.Storing.{table_after, splits_stay, row_added, splits_after}
use Rattle.packed_spans.proofs.packed_spans.PackedSpans.add_split.Goals as goal

pub invariant_of-self-in_err-push : goal.invariant_of-self-in_err-push
invariant_of-self-in_err-push c =
    let (more, grown) = c.in_ok-row.ensures.grows in
    rw c.in_err-push.ensures.items (table_after _ _ _ _ more grown c.self.invariant)

pub returns-in_err-push-clause-refused : goal.returns-in_err-push-clause-refused
returns-in_err-push-clause-refused c =
    let (more, grown) = c.in_ok-row.ensures.grows in
    let p = err_from_is_err_and c.from_residual-in_err-push.result c.from_residual-in_err-push.ensures.1 in
    let spans : List Span = map row_span c.self.inside.table.spans.items in
    let same = ap (λ (ss : List PackedSplit). let q : Packed = record { spans = spans; splits = ss } in q)
    (splits_stay _ c.self.inside.table.splits.items _ _ more grown c.self.invariant) in
    rw (p.1, c.in_err-push.ensures.items) (same ∙ c.self.view_is)

pub invariant_of-self-2 : goal.invariant_of-self-2
invariant_of-self-2 c =
    let (more, grown) = c.in_ok-row.ensures.grows in
    let spans : map row_span c.self.inside.table.spans.items ≡ c.args.self.now.spans = ap (λ (q : Packed). q.spans) c.self.view_is in
    let within : c.args.span < length c.self.inside.table.spans.items =
    omega (arith, c.requires.span, ap length spans, length-map c.self.inside.table.spans.items row_span) in
    let was : slice_get c.self.inside.table.spans.items c.args.span ≡ Some c.index.result.now = read_at _ _ _ within c.index.ensures in
    let again : slice_get c.self.inside.table.spans.items c.args.span ≡ Some c.index_mut-owner.result.now =
    read_at _ _ _ within c.index_mut-owner.ensures.value in
    let same : c.index_mut-owner.result.now ≡ c.index.result.now = one_at c.self.inside.table.spans.items c.args.span _ _ again was in
    let link : c.len-count.result + 1 ≡ length c.self.inside.table.splits.items + 1 = omega (arith, c.len-count.ensures) in
    let are = subst (λ ss. ArePartsOf ss c.args.parts.now) (sym spans) c.requires.parts in
    let row = row_added _ _ _ _ more grown c.self.invariant _ _ _ _ c.in_ok-row.row c.in_ok-row.ensures.row c.index.result.now
    (record {
      span = c.index_mut-owner.result.now.span;
      newest = c.len-count.result + 1;
      count = (c.index_mut-owner.result.now.count + 1) % 18446744073709551616;
    }) was refl (ap (λ (r : SpanRow). r.span) same) link are in
    rw c.in_ok-push.ensures.items row

pub returns-clause-spans : goal.returns-clause-spans
returns-clause-spans c =
    let spans : map row_span c.self.inside.table.spans.items ≡ c.args.self.now.spans = ap (λ (q : Packed). q.spans) c.self.view_is in
    let within : c.args.span < length c.self.inside.table.spans.items =
    omega (arith, c.requires.span, ap length spans, length-map c.self.inside.table.spans.items row_span) in
    let again : slice_get c.self.inside.table.spans.items c.args.span ≡ Some c.index_mut-owner.result.now =
    read_at _ _ _ within c.index_mut-owner.ensures.value in
    map_kept row_span _ _ c.index_mut-owner.result.now _ again refl ∙ spans

pub returns-clause-splits : goal.returns-clause-splits
returns-clause-splits c =
    let (more, grown) = c.in_ok-row.ensures.grows in
    let splits = ap (λ (q : Packed). q.splits) c.self.view_is in
    let added : PackedSplit = record { span = c.args.span; rule = c.args.rule; parts = c.args.parts.now } in
    let after = splits_after _ c.self.inside.table.splits.items _ _ more grown c.self.invariant _ _ _ _ c.in_ok-row.row c.in_ok-row.ensures.row in
    rw c.in_ok-push.ensures.items (after ∙ ap (λ (ss : List PackedSplit). ss ++ added ∷ []) splits)
