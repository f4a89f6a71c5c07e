-- The splits of a forest's nodes that rows of splits tell.
use Rattle.std.specs.Prelude.{◌≡◌, ℕ, ◌+◌, ◌≤◌, ◌==◌, List, [], ◌∷◌, map, if◌then◌else◌, slice_index, Contains, slice_get, Some}
use Rattle.std.specs.List.Sorted.{IsStrictlySortedBy}
use Rattle.forest.specs.declared.nodes.Split.{Split}
use Rattle.forest.specs.declared.rules.RuleId.{RuleId}
use Rattle.forest.specs.Orders.{split_cmp}
use Rattle.packed_spans.specs.declared.span.TheConstants.{TOKEN_PART}
use Rattle.packed_spans.specs.declared.table.SpanRow.{SpanRow}
use Rattle.packed_spans.specs.declared.table.SplitRow.{SplitRow}
use Rattle.packed_spans.specs.Tables.{parts_in, IsSplitRow}

abbrev pub ends_in : List SpanRow → List ℕ
ends_in = map (λ row. row.span.to)

-- where the part ends that begins at this place
abbrev pub end_at : List SpanRow → ℕ → ℕ → ℕ
end_at spans at part = if part == TOKEN_PART then at + 1 else slice_index (ends_in spans) part

-- where the parts end, one after the other
abbrev pub ends_of : List SpanRow → ℕ → List ℕ → List ℕ
ends_of spans at [] = []
ends_of spans at (part ∷ parts) = end_at spans at part ∷ ends_of spans (end_at spans at part) parts

-- where the last of them ends
abbrev pub last_end_of : List SpanRow → ℕ → List ℕ → ℕ
last_end_of spans at [] = at
last_end_of spans at (part ∷ parts) = last_end_of spans (end_at spans at part) parts

-- the split that the row tells where its span begins at this place
abbrev pub told : List SpanRow → List ℕ → ℕ → SplitRow → Split
told spans parts from row = record { rule = row.rule; cuts = from ∷ ends_of spans from (parts_in parts row) }

-- the first part of the row ends at this place, where its span begins at that one
pub record EndsFirst (spans : List SpanRow) (parts : List ℕ) (row : SplitRow) (from second : ℕ) : Type 0 where
  pub part : ℕ
  pub at : slice_get (parts_in parts row) 0 ≡ Some part
  pub end : second ≡ end_at spans from part

-- the split is by this rule, and its second cut is at the floor or above, and right below the next floor
pub record IsNextAbove (spans : List SpanRow) (parts : List ℕ) (row : SplitRow) (rule : RuleId) (from floor next : ℕ) : Type 0 where
  pub by : row.rule ≡ rule
  pub second : ℕ
  pub ends : EndsFirst spans parts row from second
  pub high : floor ≤ second
  pub next_is : next ≡ second + 1

-- exactly what the rows of the span tell, but for those below the link
pub record AreSplitsTold (spans : List SpanRow) (splits : List SplitRow) (parts : List ℕ) (span from link : ℕ) (found : List Split) : Type 0 where
  pub sound : (split : Split) → Contains found split → (row : SplitRow) × IsSplitRow splits span row × (told spans parts from row ≡ split)
  pub whole : (k : ℕ) (row : SplitRow) → link ≤ k → slice_get splits k ≡ Some row → row.span ≡ span → Contains found (told spans parts from row)

-- in order, exactly what the rows of the span tell
pub record AreSplitsOf (spans : List SpanRow) (splits : List SplitRow) (parts : List ℕ) (span from : ℕ) (found : List Split) : Type 0 where
  pub order : IsStrictlySortedBy split_cmp found
  pub exact : AreSplitsTold spans splits parts span from 0 found
