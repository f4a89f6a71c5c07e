-- How tables find spans.
use Rattle.std.specs.Prelude.{◌≡◌, ℕ, ◌+◌, ◌*◌, ◌<◌, List, [], ◌∷◌, ◌++◌, Contains, slice_get, Some, true, length, replicate, false}
use Rattle.forest.specs.declared.symbols.SymbolId.{SymbolId}
use Rattle.plain_chart.specs.declared.spans.Span.{Span}
use Rattle.plain_chart.specs.declared.spans.Table.{Table}
use Rattle.plain_chart.specs.Span.{span}
use Rattle.plain_chart.specs.declared.limits.TheConstants.{PLACES}

-- where the bit of a start and an end stands
abbrev pub bit : ℕ → ℕ → ℕ
bit i j = i * PLACES + j

-- the table at this place is the symbol's
abbrev pub IsTableAt : List Table → SymbolId → ℕ → Type 0
IsTableAt tables x at = (table : Table) × (slice_get tables at ≡ Some table) × (table.symbol ≡ x)

-- the bit of the table at this place is set
pub record IsSet (tables : List Table) (at i j : ℕ) : Type 0 where
  pub table : Table
  pub is : slice_get tables at ≡ Some table
  pub bit : slice_get table.bits.items (bit i j) ≡ Some true

-- the spans are those whose bits are set in the table of their symbol, of which there is one
pub record IsIndexed (items : List Span) (tables : List Table) : Type 0 where
  pub wide : (at : ℕ) (table : Table) → slice_get tables at ≡ Some table → length table.bits.items ≡ PLACES * PLACES
  pub single : (x : SymbolId) (a b : ℕ) → IsTableAt tables x a → IsTableAt tables x b → a ≡ b
  pub listed : (s : Span) → Contains items s → (at : ℕ) × IsTableAt tables s.symbol at × IsSet tables at s.from s.to
  pub bits : (at i j : ℕ) (x : SymbolId) → IsTableAt tables x at → i < PLACES → j < PLACES → IsSet tables at i j → Contains items (span x i j)

-- the tables stay, but for an empty one that may come for a symbol that had none
pub data KeepsTables (old : List Table) (x : SymbolId) : List Table → Type 0 where
  same : KeepsTables old x old
  added : (table : Table) → table.symbol ≡ x → table.bits.items ≡ replicate (PLACES * PLACES) false → ((at : ℕ) → IsTableAt old x at → ⊥)
      → KeepsTables old x (old ++ table ∷ [])
