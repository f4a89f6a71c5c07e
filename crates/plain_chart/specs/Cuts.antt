-- The cuts of right sides.
use Rattle.std.specs.Prelude.{◌≡◌, ℕ, ◌≤◌, List, [], ◌∷◌, ◌++◌, map, Contains}
use Rattle.std.specs.Ordering.{nat_cmp}
use Rattle.std.specs.Cmp.Lexicographic.{slice_cmp}
use Rattle.std.specs.List.Sorted.{IsStrictlySortedBy}
use Rattle.forest.specs.declared.symbols.SymbolId.{SymbolId}
use Rattle.forest.specs.declared.rules.Rule.{Rule}
use Rattle.forest.specs.declared.nodes.Split.{Split}
use Rattle.forest.specs.Orders.{split_cmp}
use Rattle.forest.specs.Forests.{IsSplit}
use Rattle.plain_chart.specs.declared.spans.Span.{Span}
use Rattle.plain_chart.specs.Known.{IsKnownToDerive}

-- the cuts are those of the symbols from i to j, all parts known
abbrev pub AreKnownCuts : List SymbolId → List Span → List SymbolId → ℕ → ℕ → List ℕ → Type 0
AreKnownCuts tokens known [] i j cuts = (i ≡ j) × (cuts ≡ i ∷ [])
AreKnownCuts tokens known (x ∷ xs) i j cuts = (k : ℕ) × (rest : List ℕ) × (i ≤ k) × (k ≤ j) × (cuts ≡ i ∷ rest) × IsKnownToDerive tokens known x i k
    × AreKnownCuts tokens known xs k j rest

-- the list has exactly these cuts, in strictly ascending order
pub record AreAllCuts (tokens : List SymbolId) (known : List Span) (xs : List SymbolId) (i j : ℕ) (found : List (List ℕ)) : Type 0 where
  pub order : IsStrictlySortedBy (slice_cmp nat_cmp) found
  pub within : (cuts : List ℕ) → Contains found cuts → AreKnownCuts tokens known xs i j cuts
  pub all : (cuts : List ℕ) → AreKnownCuts tokens known xs i j cuts → Contains found cuts

-- the splits are those of the rules for the span, in strictly ascending order
pub record AreSplits (rules : List Rule) (tokens : List SymbolId) (s : Span) (found : List Split) : Type 0 where
  pub order : IsStrictlySortedBy split_cmp found
  pub within : (split : Split) → Contains found split → IsSplit rules tokens s.symbol s.from s.to split
  pub all : (split : Split) → IsSplit rules tokens s.symbol s.from s.to split → Contains found split

abbrev pub split_of : Rule → List ℕ → Split
split_of rule cuts = record { rule = rule.number; cuts = cuts }

-- the splits that the rule has for the span come at the end
pub record AddsSplits (tokens : List SymbolId) (known : List Span) (rule : Rule) (s : Span) (old new : List Split) : Type 0 where
  pub cuts : List (List ℕ)
  pub exact : AreAllCuts tokens known rule.right s.from s.to cuts
  pub grown : new ≡ old ++ map (split_of rule) cuts
