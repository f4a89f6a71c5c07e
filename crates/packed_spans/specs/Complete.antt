-- When packed spans have a forest whole.
use Rattle.std.specs.Prelude.{◌≡◌, ℕ, suc, List, [], ◌∷◌, length, Contains, slice_get, Some}
use Rattle.forest.specs.declared.symbols.SymbolId.{SymbolId}
use Rattle.forest.specs.declared.symbols.TheConstants.{START}
use Rattle.forest.specs.declared.rules.Rule.{Rule}
use Rattle.forest.specs.Derivation.{Derives, DerivesAlong, IsNonterminal}
use Rattle.packed_spans.specs.declared.span.Span.{Span}
use Rattle.packed_spans.specs.declared.span.TheConstants.{TOKEN_PART}
use Rattle.packed_spans.specs.Packed.{PackedSplit, Packed}

-- the part is x from i to j: a token of that kind where x is no left side of a rule, or else the span of x
pub data IsPartAt (rules : List Rule) (tokens : List SymbolId) (spans : List Span) : SymbolId → ℕ → ℕ → ℕ → Type 0 where
  of_token : {x : SymbolId} {i : ℕ} → slice_get tokens i ≡ Some x → (IsNonterminal rules x → ⊥) → IsPartAt rules tokens spans x i TOKEN_PART (suc i)
  of_span : {x : SymbolId} {i j part : ℕ} → IsNonterminal rules x → slice_get spans part ≡ Some (record { symbol = x; from = i; to = j })
      → IsPartAt rules tokens spans x i part j

-- the parts stand along the symbols from i to j, one after the other: the cuts are the places where they end
pub data StandsAlong (rules : List Rule) (tokens : List SymbolId) (spans : List Span) : List SymbolId → ℕ → List ℕ → List ℕ → ℕ → Type 0 where
  no_parts : {i : ℕ} → StandsAlong rules tokens spans [] i [] [] i
  next_part : {x : SymbolId} {xs : List SymbolId} {i k j part : ℕ} {parts cuts : List ℕ} → IsPartAt rules tokens spans x i part k
      → StandsAlong rules tokens spans xs k parts cuts j → StandsAlong rules tokens spans (x ∷ xs) i (part ∷ parts) (k ∷ cuts) j

-- the split is the rule with its parts ending at the cuts, from the span's start to its end
pub record TellsSplit (rules : List Rule) (tokens : List SymbolId) (spans : List Span) (rule : Rule) (cuts : List ℕ) (split : PackedSplit) : Type 0 where
  pub span : Span
  pub at : slice_get spans split.span ≡ Some span
  pub number : rule.number ≡ split.rule
  pub left : rule.left ≡ span.symbol
  pub along : StandsAlong rules tokens spans rule.right span.from split.parts cuts span.to

-- no two spans have the same symbol and ends
abbrev pub AreDifferent : List Span → Type 0
AreDifferent spans = (m n : ℕ) (span : Span) → slice_get spans m ≡ Some span → slice_get spans n ≡ Some span → m ≡ n

-- the root is START over the whole text, each span is derived, no two are the same, each split is one by a live rule, and none of a span is missing
pub record IsComplete (rules : List Rule) (tokens : List SymbolId) (packed : Packed) (root : ℕ) : Type 0 where
  pub text : slice_get packed.spans root ≡ Some (record { symbol = START; from = 0; to = length tokens })
  pub derived : (n : ℕ) (span : Span) → slice_get packed.spans n ≡ Some span → Derives rules tokens span.symbol span.from span.to
  pub different : AreDifferent packed.spans
  pub sound : (split : PackedSplit) → Contains packed.splits split
      → (rule : Rule) × Contains rules rule × ((cuts : List ℕ) × TellsSplit rules tokens packed.spans rule cuts split)
  pub whole : (n : ℕ) (span : Span) → slice_get packed.spans n ≡ Some span → (rule : Rule) → Contains rules rule → rule.left ≡ span.symbol
      → (cuts : List ℕ) → DerivesAlong rules tokens rule.right span.from cuts span.to
      → (split : PackedSplit) × Contains packed.splits split × (split.span ≡ n) × TellsSplit rules tokens packed.spans rule cuts split
