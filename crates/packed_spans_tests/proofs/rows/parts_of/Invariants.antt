use Rattle.std.proofs.Common.{◌≡◌, ℕ, ◌<◌, ◌⊎◌, Contains}
use Rattle.packed_spans.specs.declared.span.TheConstants.{TOKEN_PART}
use Rattle.packed_spans_tests.proofs.rows.parts_of.Given as goal

-- each part so far is a token or a span's number
abbrev pub invariant-loop-byte : goal.invariant-loop-byte
invariant-loop-byte l = (part : ℕ) → Contains l.parts.items part → (part ≡ TOKEN_PART) ⊎ (part < l.count)
