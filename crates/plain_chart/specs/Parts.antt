-- The parts of splits, and the spans of the forest.
use Rattle.std.specs.Prelude.{◌≡◌, ℕ, ◌≤◌, ◌⊎◌, List, [], ◌∷◌, ◌++◌, Contains}
use Rattle.forest.specs.declared.symbols.SymbolId.{SymbolId}
use Rattle.forest.specs.declared.rules.Rule.{Rule}
use Rattle.forest.specs.Distinct.{IsDistinct}
use Rattle.forest.specs.Forests.{InForest}
use Rattle.plain_chart.specs.declared.spans.Span.{Span}
use Rattle.plain_chart.specs.Span.{span}
use Rattle.plain_chart.specs.Known.{IsKnownToDerive, AreKnown}

-- s is the span of a part of the symbols, along some known cuts from i to j
abbrev pub IsPartSpan : List SymbolId → List Span → List SymbolId → ℕ → ℕ → Span → Type 0
IsPartSpan tokens known [] i j s = ⊥
IsPartSpan tokens known (x ∷ xs) i j s = (k : ℕ) × (i ≤ k) × (k ≤ j) × IsKnownToDerive tokens known x i k × AreKnown tokens known xs k j ×
    ((span x i k ≡ s) ⊎ IsPartSpan tokens known xs k j s)

-- s is the span of a part of a rule of the span t
pub record IsPartOfSpan (rules : List Rule) (tokens : List SymbolId) (known : List Span) (t s : Span) : Type 0 where
  pub rule : Rule
  pub live : Contains rules rule
  pub left : rule.left ≡ t.symbol
  pub part : IsPartSpan tokens known rule.right t.from t.to s

-- spans are added at the end, none twice: known ones with the property, and all of them
pub record Adds (known : List Span) (P : Span → Type 0) (old new : List Span) : Type 0 where
  pub more : List Span
  pub grown : new ≡ old ++ more
  pub distinct : IsDistinct old → IsDistinct new
  pub within : (s : Span) → Contains new s → Contains old s ⊎ (Contains known s × P s)
  pub all : (s : Span) → Contains known s → P s → Contains new s

-- the spans are those of the forest
pub record AreReached (rules : List Rule) (tokens : List SymbolId) (reached : List Span) : Type 0 where
  pub within : (s : Span) → Contains reached s → InForest rules tokens s.symbol s.from s.to
  pub all : (x : SymbolId) (i j : ℕ) → InForest rules tokens x i j → Contains reached (span x i j)
