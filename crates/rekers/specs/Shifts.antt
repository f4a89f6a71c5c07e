-- Shifts from the nodes of one level to the next.
use Rattle.std.specs.Prelude.{◌≡◌, ℕ, ◌+◌, ◌<◌, ◌≤◌, List, Some, slice_get, Contains}
use Rattle.forest.specs.declared.symbols.SymbolId.{SymbolId}
use Rattle.forest.specs.declared.rules.Rule.{Rule}
use Rattle.item_sets.specs.declared.item.Item.{Item}
use Rattle.item_sets.specs.Expansions.{HasMove}
use Rattle.packed_spans.specs.declared.span.TheConstants.{TOKEN_PART}
use Rattle.rekers.specs.Found.{Findings, IsNode}
use Rattle.rekers.specs.Reductions.{IsLinkTo}

-- the nodes from the first number to the past one are at the place before this one
abbrev pub AreBefore : Findings → (first past at : ℕ) → Type 0
AreBefore f first past at = (node : ℕ) → first ≤ node → node < past → (kernel : List Item) × (from : ℕ) × IsNode f node kernel from × (at ≡ from + 1)

-- the token before the place has this kind
abbrev pub IsBefore : List SymbolId → (kind : SymbolId) → (at : ℕ) → Type 0
IsBefore tokens kind at = (from : ℕ) × (at ≡ from + 1) × (slice_get tokens from ≡ Some kind)

-- from each of the nodes from the first number to the past one that moves on the kind, a link leads to the place
abbrev pub AreShiftedFrom : List Rule → Findings → (first past : ℕ) → SymbolId → (at : ℕ) → Type 0
AreShiftedFrom rules f first past kind at = (node : ℕ) → first ≤ node → node < past → (kernel : List Item) (i : ℕ) → IsNode f node kernel i
    → HasMove rules (Contains kernel) kind → (link : ℕ) × IsLinkTo f link node kind at TOKEN_PART
