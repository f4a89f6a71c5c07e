-- What a list of known spans says.
use Rattle.std.specs.Prelude.{◌≡◌, ℕ, ◌+◌, ◌<◌, ◌≤◌, ◌⊎◌, ◌↔◌, List, [], ◌∷◌, length, Contains, slice_get, Some, Bool, true, false}
use Rattle.forest.specs.declared.symbols.SymbolId.{SymbolId}
use Rattle.forest.specs.declared.rules.Rule.{Rule}
use Rattle.forest.specs.Derivation.{Derives, IsNonterminal}
use Rattle.forest.specs.Distinct.{IsDistinct}
use Rattle.plain_chart.specs.declared.spans.Span.{Span}
use Rattle.plain_chart.specs.Span.{span}
use Rattle.plain_chart.specs.declared.limits.TheConstants.{PLACES}

-- x is known to derive the tokens from i to j
abbrev pub IsKnownToDerive : List SymbolId → List Span → SymbolId → ℕ → ℕ → Type 0
IsKnownToDerive tokens known x i j = ((slice_get tokens i ≡ Some x) × (j ≡ i + 1)) ⊎ Contains known (span x i j)

-- the symbols are known to derive the tokens from i to j, along some cuts
abbrev pub AreKnown : List SymbolId → List Span → List SymbolId → ℕ → ℕ → Type 0
AreKnown tokens known [] i j = i ≡ j
AreKnown tokens known (x ∷ xs) i j = (k : ℕ) × (i ≤ k) × (k ≤ j) × IsKnownToDerive tokens known x i k × AreKnown tokens known xs k j

-- the places are those from which the symbols are known to derive the tokens up to j
abbrev pub AreSources : List SymbolId → List Span → List SymbolId → ℕ → List Bool → Type 0
AreSources tokens known xs j places = (i : ℕ) → i < PLACES → (slice_get places i ≡ Some true) ↔ AreKnown tokens known xs i j

-- x is known to derive the tokens from i to a place up to j that is among those ahead
abbrev pub ReachesAhead : List SymbolId → List Span → SymbolId → ℕ → List Bool → ℕ → Type 0
ReachesAhead tokens known x i ahead j = (k : ℕ) × (i ≤ k) × (k ≤ j) × IsKnownToDerive tokens known x i k × (slice_get ahead k ≡ Some true)

-- the places are those from which x leads to one of those ahead
abbrev pub AreLeads : List SymbolId → List Span → SymbolId → List Bool → ℕ → List Bool → Type 0
AreLeads tokens known x ahead j places = (i : ℕ) → i < PLACES → (slice_get places i ≡ Some true) ↔ ReachesAhead tokens known x i ahead j

-- each known span is derived by a rule
abbrev pub AreDerived : List Rule → List SymbolId → List Span → Type 0
AreDerived rules tokens known = (x : SymbolId) (i j : ℕ) → Contains known (span x i j) → Derives rules tokens x i j

-- where the right side of the rule is known from i to j, so is its left side
abbrev pub IsSettled : List SymbolId → List Span → Rule → ℕ → ℕ → Type 0
IsSettled tokens known rule i j = AreKnown tokens known rule.right i j → Contains known (span rule.left i j)

-- the span is of a rule, and lies within the text
abbrev pub IsSpanWithin : List Rule → List SymbolId → Span → Type 0
IsSpanWithin rules tokens s = IsNonterminal rules s.symbol × (s.from ≤ length tokens) × (s.to ≤ length tokens)

-- the known spans are derived, come once, and are of rules within the text
pub record AreFine (rules : List Rule) (tokens : List SymbolId) (known : List Span) : Type 0 where
  pub derived : AreDerived rules tokens known
  pub distinct : IsDistinct known
  pub within : (s : Span) → Contains known s → IsSpanWithin rules tokens s

-- each rule is settled at each span within the text
abbrev pub AreSettled : List Rule → List SymbolId → List Span → Type 0
AreSettled rules tokens known = (r : Rule) (i j : ℕ) → Contains rules r → j ≤ length tokens → IsSettled tokens known r i j

-- the known spans stay, stay fine, and there are more of them just where this is told
pub record ExtendsKnown (rules : List Rule) (tokens : List SymbolId) (old new : List Span) (changed : Bool) : Type 0 where
  pub fine : AreFine rules tokens new
  pub kept : (s : Span) → Contains old s → Contains new s
  pub more : changed ≡ true → length old < length new
  pub same : changed ≡ false → new ≡ old

-- known is just what is derived
pub record IsWhole (rules : List Rule) (tokens : List SymbolId) (known : List Span) : Type 0 where
  pub fine : AreFine rules tokens known
  pub all : (x : SymbolId) (i j : ℕ) → Derives rules tokens x i j → i ≤ length tokens → IsKnownToDerive tokens known x i j
