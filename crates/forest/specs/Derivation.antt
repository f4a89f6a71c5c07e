-- What symbols derive.
use Rattle.std.specs.Prelude.{◌≡◌, ℕ, suc, List, [], ◌∷◌, length, Contains, slice_get, Some}
use Rattle.forest.specs.declared.symbols.SymbolId.{SymbolId}
use Rattle.forest.specs.declared.symbols.TheConstants.{START}
use Rattle.forest.specs.declared.rules.Rule.{Rule}

-- A symbol derives the tokens from i to j: it is the kind of token i, and j is the next place, or one of its rules has
-- its right side derived from i to j. This is the least such relation. The tokens are given by their kinds.
mutual
  pub data Derives (rules : List Rule) (tokens : List SymbolId) : SymbolId → ℕ → ℕ → Type 0 where
    token : {x : SymbolId} {i : ℕ} → slice_get tokens i ≡ Some x → Derives rules tokens x i (suc i)
    by_rule : {r : Rule} {i j : ℕ} {cuts : List ℕ} → Contains rules r → DerivesAlong rules tokens r.right i cuts j → Derives rules tokens r.left i j

  -- The symbols derive the tokens from i to j, one after the other: the cuts are the places where they end, so the last
  -- of them is j, and no symbols derive only what lies from i to i.
  pub data DerivesAlong (rules : List Rule) (tokens : List SymbolId) : List SymbolId → ℕ → List ℕ → ℕ → Type 0 where
    done : {i : ℕ} → DerivesAlong rules tokens [] i [] i
    part : {x : SymbolId} {xs : List SymbolId} {i k j : ℕ} {cuts : List ℕ} → Derives rules tokens x i k → DerivesAlong rules tokens xs k cuts j
        → DerivesAlong rules tokens (x ∷ xs) i (k ∷ cuts) j

-- START derives the whole text
abbrev pub IsSentence : List Rule → List SymbolId → Type 0
IsSentence rules tokens = Derives rules tokens START 0 (length tokens)

-- the symbol is the left side of a rule
abbrev pub IsNonterminal : List Rule → SymbolId → Type 0
IsNonterminal rules x = (r : Rule) × Contains rules r × (r.left ≡ x)

-- no token's kind is the left side of a rule
abbrev pub AreTerminals : List Rule → List SymbolId → Type 0
AreTerminals rules tokens = (x : SymbolId) → Contains tokens x → IsNonterminal rules x → ⊥
