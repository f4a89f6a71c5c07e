-- Spans by number, with their splits.
use Rattle.std.specs.Prelude.{◌≡◌, ℕ, ◌<◌, ◌⊎◌, List, [], length, Contains}
use Rattle.forest.specs.declared.rules.RuleId.{RuleId}
use Rattle.packed_spans.specs.declared.span.Span.{Span}
use Rattle.packed_spans.specs.declared.span.TheConstants.{TOKEN_PART}

-- a split of a span: the span's number, a rule, and the parts of its right side. A part is the number of a span, or TOKEN_PART for a token.
pub record PackedSplit : Type 0 where
  pub span : ℕ
  pub rule : RuleId
  pub parts : List ℕ

-- the spans in the order of their numbers, and the splits in the order in which they were added
pub record Packed : Type 0 where
  pub spans : List Span
  pub splits : List PackedSplit

-- no spans
abbrev pub empty : Packed
empty = record { spans = []; splits = [] }

-- each part is a token or a span's number
abbrev pub ArePartsOf : List Span → List ℕ → Type 0
ArePartsOf spans parts = (part : ℕ) → Contains parts part → (part ≡ TOKEN_PART) ⊎ (part < length spans)
