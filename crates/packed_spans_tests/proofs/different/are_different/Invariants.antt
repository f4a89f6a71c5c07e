use Rattle.std.proofs.Common.{◌≡◌, ℕ, ◌<◌, slice_get, Some}
use Rattle.packed_spans.specs.declared.span.Span.{Span}
use Rattle.packed_spans_tests.proofs.different.are_different.Given as goal

-- none of the spans so far comes again
abbrev pub invariant-loop-number : goal.invariant-loop-number
invariant-loop-number l = (m n : ℕ) (span : Span) → m < l.number → m < n → slice_get l.spans.spans m ≡ Some span
    → slice_get l.spans.spans n ≡ Some span → ⊥
