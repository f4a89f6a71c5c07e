-- All spans of the rules within a text: what is known is among them, so the rounds end.
use Rattle.std.proofs.Common.{◌≡◌, ℕ, zero, suc, ◌+◌, ◌<◌, ◌≤◌, inl, inr, List, [], ◌∷◌, ◌++◌, length, subst, arith, Contains}
use Rattle.std.proofs.lemmas.Bool.{cases_lt}
use Rattle.std.proofs.lemmas.List.Elements.{Contains-append_left, Contains-append_right}
use Rattle.forest.specs.declared.symbols.SymbolId.{SymbolId}
use Rattle.forest.specs.declared.rules.Rule.{Rule}
use Rattle.forest.proofs.Ascending.{contains_cases, contains_there, contains_here}
use Rattle.forest.proofs.Counting.{at_most}
use Rattle.plain_chart.specs.declared.spans.Span.{Span}
use Rattle.plain_chart.specs.Span.{span}
use Rattle.plain_chart.specs.Known.{AreFine}

-- the spans of x from i with an end below n
ends : SymbolId → ℕ → ℕ → List Span
ends x i zero = []
ends x i (suc n) = span x i n ∷ ends x i n

ends_has : (x : SymbolId) (i n j : ℕ) → j < n → Contains (ends x i n) (span x i j)
unfolding ends
ends_has x i zero j l = absurd (omega arith)
ends_has x i (suc n) j l = elim (cases_lt j n) [
  | inl below ↦ contains_there (span x i n) (ends x i n) (span x i j) (ends_has x i n j below)
  | inr above ↦ let same : n ≡ j = omega arith in subst (λ k. Contains (span x i n ∷ ends x i n) (span x i k)) same (contains_here (span x i n) (ends x i n))
]

starts : SymbolId → ℕ → ℕ → List Span
starts x zero n = []
starts x (suc m) n = ends x m n ++ starts x m n

starts_has : (x : SymbolId) (m n i j : ℕ) → i < m → j < n → Contains (starts x m n) (span x i j)
unfolding starts
starts_has x zero n i j l k = absurd (omega arith)
starts_has x (suc m) n i j l k = elim (cases_lt i m) [
  | inl below ↦ Contains-append_right (ends x m n) (starts x m n) (span x i j) (starts_has x m n i j below k)
  | inr above ↦ let same : m ≡ i = omega arith in subst (λ z. Contains (ends x m n ++ starts x m n) (span x z j)) same
      (Contains-append_left (ends x m n) (starts x m n) (span x m j) (ends_has x m n j k))
]

pub universe : List Rule → ℕ → List Span
universe [] n = []
universe (r ∷ rs) n = starts r.left n n ++ universe rs n

universe_has : (rules : List Rule) (n : ℕ) (r : Rule) (i j : ℕ) → Contains rules r → i < n → j < n → Contains (universe rules n) (span r.left i j)
unfolding universe
universe_has [] n r i j c l k = absurd (omega (arith, c.1))
universe_has (q ∷ rs) n r i j c l k = elim (contains_cases q rs r c) [
  | inl e ↦ subst (λ (p : Rule). Contains (starts q.left n n ++ universe rs n) (span p.left i j)) e (Contains-append_left (starts q.left n n) (universe rs n)
      (span q.left i j) (starts_has q.left n n i j l k))
  | inr d ↦ Contains-append_right (starts q.left n n) (universe rs n) (span r.left i j) (universe_has rs n r i j d l k)
]

-- fine spans are at most all spans
pub known_at_most : (rules : List Rule) (tokens : List SymbolId) (known : List Span) → AreFine rules tokens known
    → length known ≤ length (universe rules (length tokens + 1))
known_at_most rules tokens known f = at_most known (universe rules (length tokens + 1)) f.distinct (λ s c.
    let w = f.within s c in
    subst (λ x. Contains (universe rules (length tokens + 1)) (span x s.from s.to)) w.0.2 (universe_has rules (length tokens + 1) w.0.0 s.from s.to w.0.1
    (omega (arith, w.1)) (omega (arith, w.2))))
