-- Places from which something is derived, as bits.
use Rattle.std.proofs.Common.{◌≡◌, ℕ, zero, suc, ◌+◌, ◌<◌, ◌≤◌, ◌↔◌, inl, inr, List, [], ◌∷◌, length, get_or, replicate, set, sym, ◌∙◌, ap, subst, arith, Bool}
use Rattle.std.proofs.Common.{true, false, IsTrue, slice_get, Some}
use Rattle.std.proofs.lemmas.Bool.{cases_lt}
use Rattle.std.proofs.lemmas.List.{length-replicate, get_or-replicate}
use Rattle.forest.specs.declared.symbols.SymbolId.{SymbolId}
use Rattle.plain_chart.specs.declared.spans.Span.{Span}
use Rattle.plain_chart.specs.Known.{AreSources, ReachesAhead, AreLeads}
use Rattle.plain_chart.proofs.TableLemmas.{some_same, read_is, get_set, set_here, set_there, not_set}
use Rattle.plain_chart.specs.declared.limits.TheConstants.{PLACES}

-- one bit is set
pub one_set : (n to i : ℕ) → to < n → (slice_get (set (replicate n false) to true) i ≡ Some true) ↔ (i ≡ to)
one_set n to i l =
    let within : to < length (replicate n false) = omega (arith, length-replicate n false) in (
      λ e. elim (get_set (replicate n false) to true i true e) [ inl f ↦ f.0 | inr f ↦ absurd (not_set n i f.1) ],
      λ e. subst (λ k. slice_get (set (replicate n false) to true) k ≡ Some true) (sym e) (set_here (replicate n false) to true within),
    )

pub none_set : (n i : ℕ) → i < n → slice_get (replicate n false) i ≡ Some false
none_set n i l = read_is (replicate n false) i false (sym (get_or-replicate n i false false l)) (omega (arith, length-replicate n false))

-- one more bit tells a fact
pub bits_more : (P : ℕ → Type 0) (places : List Bool) (n : ℕ) (b : Bool) → n < length places → ((i : ℕ) → i < n → (slice_get places i ≡ Some true) ↔ P i)
    → (IsTrue b ↔ P n) → (i : ℕ) → i < n + 1 → (slice_get (set places n b) i ≡ Some true) ↔ P i
bits_more P places n b within below here i l = elim (cases_lt i n) [
  | inl less ↦ (
    λ e. elim (get_set places n b i true e) [ inl f ↦ absurd (omega (arith, f.0)) | inr f ↦ (below i less).0 f.1 ],
    λ p. set_there places n b i true (λ f. omega (arith, f)) ((below i less).1 p),
  )
  | inr more ↦
      let same : n ≡ i = omega arith in
      subst (λ k. (slice_get (set places n b) k ≡ Some true) ↔ P k) same (
        λ e. here.0 (some_same b true (sym (set_here places n b within) ∙ e)),
        λ p. set_here places n b within ∙ ap Some (here.1 p),
      )
]

pub clear_more : (places : List Bool) (n : ℕ) (b : Bool) → ((i : ℕ) → n ≤ i → i < PLACES → slice_get places i ≡ Some false) → (i : ℕ) → n + 1 ≤ i → i < PLACES
    → slice_get (set places n b) i ≡ Some false
clear_more places n b above i l k = set_there places n b i false (λ f. omega (arith, f)) (above i (omega arith) k)

module _ (tokens : List SymbolId) (known : List Span) where
  -- all places up to an end
  pub leads_all : (x : SymbolId) (ahead : List Bool) (j n : ℕ) (places : List Bool) → j < n
      → ((i : ℕ) → i < n → (slice_get places i ≡ Some true) ↔ ReachesAhead tokens known x i ahead j)
      → ((i : ℕ) → n ≤ i → i < PLACES → slice_get places i ≡ Some false) → AreLeads tokens known x ahead j places
  leads_all x ahead j n places l below above i k = elim (cases_lt i n) [
    | inl less ↦ below i less
    | inr more ↦ (
      λ e. let f : false ≡ true = some_same false true (sym (above i more k) ∙ e) in absurd cc,
      λ p. absurd (omega (arith, p.1, p.2)),
    )
  ]

  pub sources_none : (j : ℕ) (places : List Bool) → ((i : ℕ) → i < PLACES → (slice_get places i ≡ Some true) ↔ (i ≡ j)) → AreSources tokens known [] j places
  sources_none j places f = f

  pub sources_more : (x : SymbolId) (xs : List SymbolId) (j : ℕ) (ahead places : List Bool) → j < PLACES → AreSources tokens known xs j ahead
      → AreLeads tokens known x ahead j places → AreSources tokens known (x ∷ xs) j places
  sources_more x xs j ahead places l rest first i k = (
    λ e. let (m, lo, hi, kn, open_) = (first i k).0 e in (m, lo, hi, kn, (rest m (omega arith)).0 open_),
    λ (m, lo, hi, kn, more). (first i k).1 (m, lo, hi, kn, (rest m (omega arith)).1 more),
  )

-- a bit that is read
pub bit_read : (bits : List Bool) (k : ℕ) → get_or bits k false ≡ true → slice_get bits k ≡ Some true
bit_read [] k e = absurd cc
bit_read (b ∷ bs) zero e = ap Some e
bit_read (b ∷ bs) (suc k) e = bit_read bs k e

pub bit_clear : (bits : List Bool) (k : ℕ) → get_or bits k false ≡ false → slice_get bits k ≡ Some true → ⊥
bit_clear [] k e f = absurd cc
bit_clear (b ∷ bs) zero e f = let g : b ≡ true = some_same b true f in cc
bit_clear (b ∷ bs) (suc k) e f = bit_clear bs k e f
