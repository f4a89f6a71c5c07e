-- How packed spans lie in memory.
use Rattle.std.specs.Prelude.{◌≡◌, ℕ, ◌+◌, ◌<◌, ◌≤◌, nat_le, List, [], ◌∷◌, map, take, drop, if◌then◌else◌, length, slice_get, Some}
use Rattle.forest.specs.declared.rules.RuleId.{RuleId}
use Rattle.packed_spans.specs.declared.span.Span.{Span}
use Rattle.packed_spans.specs.declared.span.TheConstants.{TOKEN_PART}
use Rattle.packed_spans.specs.declared.table.SpanRow.{SpanRow}
use Rattle.packed_spans.specs.declared.table.SplitRow.{SplitRow}
use Rattle.packed_spans.specs.declared.table.TheConstants.{INLINE_PARTS}
use Rattle.packed_spans.specs.Packed.{PackedSplit, Packed, ArePartsOf}

-- the parts of a split: up to two lie in its row, more in the list
abbrev pub parts_in : List ℕ → SplitRow → List ℕ
parts_in parts row = if nat_le row.length INLINE_PARTS then take row.length (row.first ∷ row.second ∷ []) else take row.length (drop row.first parts)

abbrev pub row_split : List ℕ → SplitRow → PackedSplit
row_split parts row = record { span = row.span; rule = row.rule; parts = parts_in parts row }

abbrev pub row_span : SpanRow → Span
row_span row = row.span

abbrev pub packed_of : List SpanRow → List SplitRow → List ℕ → Packed
packed_of spans splits parts = record { spans = map row_span spans; splits = map (row_split parts) splits }

-- of the splits below the limit, those of the span are below the link, and the split right below it is one, if any is there
pub record IsSplitLink (splits : List SplitRow) (span limit link : ℕ) : Type 0 where
  pub low : link ≤ limit
  pub above : (k : ℕ) (row : SplitRow) → link ≤ k → k < limit → slice_get splits k ≡ Some row → row.span ≡ span → ⊥
  pub here : (k : ℕ) (row : SplitRow) → k + 1 ≡ link → slice_get splits k ≡ Some row → row.span ≡ span

-- the parts of the row are there, and are those of a split
pub record IsStored (spans : List SpanRow) (parts : List ℕ) (row : SplitRow) : Type 0 where
  pub room : INLINE_PARTS < row.length → row.first + row.length ≤ length parts
  pub are_parts : ArePartsOf (map row_span spans) (parts_in parts row)
  pub known : row.span < length spans

-- each span is linked to its newest split, each split to the next older of its span, and parts are there
pub record IsTable (spans : List SpanRow) (splits : List SplitRow) (parts : List ℕ) : Type 0 where
  pub few : length spans ≤ TOKEN_PART
  pub newest : (n : ℕ) (row : SpanRow) → slice_get spans n ≡ Some row → IsSplitLink splits n (length splits) row.newest
  pub older : (k : ℕ) (row : SplitRow) → slice_get splits k ≡ Some row → IsSplitLink splits row.span k row.older
  pub stored : (k : ℕ) (row : SplitRow) → slice_get splits k ≡ Some row → IsStored spans parts row

-- the row has these values, and the parts are there
pub record IsSplitRowOf (span : ℕ) (rule : RuleId) (older : ℕ) (given parts : List ℕ) (row : SplitRow) : Type 0 where
  pub of : row.span ≡ span
  pub by : row.rule ≡ rule
  pub link : row.older ≡ older
  pub room : INLINE_PARTS < row.length → row.first + row.length ≤ length parts
  pub same : parts_in parts row ≡ given

-- the row is that of a split of the span
pub record IsSplitRow (splits : List SplitRow) (span : ℕ) (row : SplitRow) : Type 0 where
  pub number : ℕ
  pub at : slice_get splits number ≡ Some row
  pub of : row.span ≡ span
