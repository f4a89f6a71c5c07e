use Rattle.std.proofs.Common.{◌≡◌, ◌<◌, inl, inr, false, true, refl, sym, ◌∙◌, ap, arith, slice_get, Some}
use Rattle.std.proofs.lemmas.Bool.{cases_eq}
use Rattle.std.proofs.lemmas.Option.{slice_get_within, same_Some}
use Rattle.packed_spans.specs.declared.span.Span.{Span}
use Rattle.packed_spans_tests.proofs.different.comes_again.Goals as goal

pub loop-other-preserved : goal.loop-other-preserved
loop-other-preserved c = λ n span l m e f. elim (cases_eq n c.loop-other.other) [
  | inr before ↦ c.loop-other.invariant n span l (omega arith) e f
  | inl here ↦
      let first : c.span.result ≡ span = same_Some _ _ (sym c.span.ensures ∙ e) in
      let there : slice_get c.args.spans.now.spans c.loop-other.other ≡ Some span = ap (slice_get c.args.spans.now.spans) (sym here) ∙ f in
      let second : c.span-in-loop-other.result ≡ span = same_Some _ _ (sym c.span-in-loop-other.ensures ∙ there) in
      let yes : c.is_same.result ≡ true = c.is_same.ensures.1 (first ∙ sym second) in
      let no_truth : false ≡ true = sym c.if-is_same.false ∙ yes in
      absurd cc
]

pub returns : goal.returns
returns c = λ t n span l e f.
    let within = slice_get_within c.args.spans.now.spans n span f in
    c.loop-other.invariant n span l (omega arith) e f
