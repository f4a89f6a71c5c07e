use Rattle.std.proofs.Common.{◌≡◌, ℕ, ◌<◌, slice_get, Some}
use Rattle.packed_spans.specs.declared.span.Span.{Span}
use Rattle.packed_spans_tests.proofs.different.comes_again.Given as goal

-- none of the spans so far is the same
abbrev pub invariant-loop-other : goal.invariant-loop-other
invariant-loop-other l = (n : ℕ) (span : Span) → l.number < n → n < l.other → slice_get l.spans.spans l.number ≡ Some span
    → slice_get l.spans.spans n ≡ Some span → ⊥
