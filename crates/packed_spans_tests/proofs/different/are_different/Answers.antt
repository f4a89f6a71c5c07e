use Rattle.std.proofs.Common.{◌≡◌, ◌<◌, ◌≤◌, inl, inr, refl, sym, ◌∙◌, ap, subst, arith, slice_get, Some}
use Rattle.std.proofs.lemmas.Bool.{cases_lt, cases_eq}
use Rattle.std.proofs.lemmas.Option.{slice_get_within}
use Rattle.packed_spans_tests.proofs.different.are_different.Goals as goal

pub loop-number-preserved : goal.loop-number-preserved
loop-number-preserved c = λ m n span l b e f. elim (cases_eq m c.loop-number.number) [
  | inr before ↦ c.loop-number.invariant m n span (omega arith) b e f
  | inl here ↦ c.if-comes_again.ensures refl n span (omega arith) (ap (slice_get c.args.spans.now.spans) (sym here) ∙ e) f
]

pub returns : goal.returns
returns c = λ t m n span e f.
    let first = slice_get_within c.args.spans.now.spans m span e in
    let second = slice_get_within c.args.spans.now.spans n span f in
    elim (cases_eq m n) [
      | inl same ↦ same
      | inr other ↦ elim (cases_lt m n) [
        | inl before ↦ absurd (c.loop-number.invariant m n span (omega arith) before e f)
        | inr after ↦ absurd (c.loop-number.invariant n m span (omega arith) (omega arith) f e)
      ]
    ]
