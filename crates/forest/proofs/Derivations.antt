-- Lemmas on derivations.
use Rattle.std.proofs.Common.{◌≡◌, ℕ, suc, ◌≤◌, List, [], ◌∷◌, length, arith, Contains, slice_get, Some}
use Rattle.std.proofs.lemmas.Option.{slice_get_within}
use Rattle.forest.specs.declared.symbols.SymbolId.{SymbolId}
use Rattle.forest.specs.declared.rules.Rule.{Rule}
use Rattle.forest.specs.Derivation.{Derives, DerivesAlong, token, by_rule, done, part}

mutual
  -- a derivation does not go back
  pub Derives-le : {rules : List Rule} {tokens : List SymbolId} {x : SymbolId} {i j : ℕ} → Derives rules tokens x i j → i ≤ j
  Derives-le (token e) = omega arith
  Derives-le (by_rule c a) = Along-le a

  pub Along-le : {rules : List Rule} {tokens : List SymbolId} {xs : List SymbolId} {i : ℕ} {cuts : List ℕ} {j : ℕ} → DerivesAlong rules tokens xs i cuts j
      → i ≤ j
  Along-le done = omega arith
  Along-le (part d a) = omega (arith, Derives-le d, Along-le a)

-- the parts are in the set along the cuts
pub data Along (S : SymbolId → ℕ → ℕ → Type 0) : List SymbolId → ℕ → List ℕ → ℕ → Type 0 where
  end : {i : ℕ} → Along S [] i [] i
  more : {x : SymbolId} {xs : List SymbolId} {i k j : ℕ} {cuts : List ℕ} → S x i k → Along S xs k cuts j → Along S (x ∷ xs) i (k ∷ cuts) j

-- a set of spans that has each token's and is closed under the rules
pub record IsClosed (rules : List Rule) (tokens : List SymbolId) (S : SymbolId → ℕ → ℕ → Type 0) : Type 0 where
  pub tokens_in : (i : ℕ) (x : SymbolId) → slice_get tokens i ≡ Some x → S x i (suc i)
  pub rules_in : (r : Rule) (i j : ℕ) (cuts : List ℕ) → Contains rules r → Along S r.right i cuts j → S r.left i j

module _ (rules : List Rule) (tokens : List SymbolId) (S : SymbolId → ℕ → ℕ → Type 0) (closed : IsClosed rules tokens S) where
  mutual
    -- what is derived is in each closed set
    pub least : {x : SymbolId} {i j : ℕ} → Derives rules tokens x i j → S x i j
    least (token e) = closed.tokens_in _ _ e
    least (by_rule {r = r} {cuts = cuts} c a) = closed.rules_in r _ _ cuts c (least_along a)

    pub least_along : {xs : List SymbolId} {i : ℕ} {cuts : List ℕ} {j : ℕ} → DerivesAlong rules tokens xs i cuts j → Along S xs i cuts j
    least_along done = end
    least_along (part d a) = more (least d) (least_along a)

-- the derived spans are such a set
mutual_along : {rules : List Rule} {tokens : List SymbolId} {xs : List SymbolId} {i : ℕ} {cuts : List ℕ} {j : ℕ} → Along (Derives rules tokens) xs i cuts j
    → DerivesAlong rules tokens xs i cuts j
mutual_along end = done
mutual_along (more d a) = part d (mutual_along a)

pub Derives-closed : (rules : List Rule) (tokens : List SymbolId) → IsClosed rules tokens (Derives rules tokens)
Derives-closed rules tokens = record { tokens_in = λ i x e. token e; rules_in = λ r i j cuts c a. by_rule c (mutual_along a) }

-- a derivation that begins within the text ends within it
mutual
  pub Derives-within : {rules : List Rule} {tokens : List SymbolId} {x : SymbolId} {i j : ℕ} → Derives rules tokens x i j → i ≤ length tokens
      → j ≤ length tokens
  Derives-within {tokens} (token {x = x} {i = i} e) h = slice_get_within tokens i x e
  Derives-within (by_rule c a) h = Along-within a h

  pub Along-within : {rules : List Rule} {tokens : List SymbolId} {xs : List SymbolId} {i : ℕ} {cuts : List ℕ} {j : ℕ} → DerivesAlong rules tokens xs i cuts j
      → i ≤ length tokens → j ≤ length tokens
  Along-within done h = h
  Along-within (part d a) h = Along-within a (Derives-within d h)
