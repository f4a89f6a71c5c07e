-- What is made of the words of a page's places: rows, entries, facts and places that are known.
use Rattle.std.proofs.Common.{◌≡◌, ℕ, zero, suc, ◌+◌, ◌<◌, List, [], ◌∷◌, inl, inr, length, slice_index, eq-eqb, ne_eqb, sym, refl, ap, subst}
use Rattle.std.proofs.Common.{arith}
use mathlib.Core.Bool.{cond}
use mathlib.Core.Logic.{dite}
use native.Mathlib.Decide.{ℕ_discrete}
use Rattle.std.specs.Prelude.{Bool}
use Rattle.pin_rule.specs.declared.view.EntryFact.{EntryFact}
use Rattle.pin_rule.specs.declared.view.WordFact.{WordFact}
use Rattle.pin_rule.specs.declared.view.KnownPlace.{KnownPlace}
use Rattle.pin_rule.specs.Lists.{Each, In, is_in}
use Rattle.pin_rule.specs.Making.{rows_of, entries_of, facts_on, words_on, places_known}
use Rattle.pin_rule.proofs.Spare.{is_in_tells}

-- a row of the list stands at a place of it
pub row_place : (ns : List ℕ) (row : ℕ) → In row (rows_of ns) → (i : ℕ) × (i < length ns) × (slice_index ns i ≡ suc row)
row_place [] row i = absurd i
row_place (zero ∷ ns) row i = let r = row_place ns row i in (suc r.0, (let lt = r.1 in omega arith), r.2)
row_place (suc n ∷ ns) row i = elim i [
  | inl e ↦ (0, omega arith, ap suc (sym e))
  | inr t ↦ let r = row_place ns row t in (suc r.0, (let lt = r.1 in omega arith), r.2)
]

pub place_row : (ns : List ℕ) (i row : ℕ) → i < length ns → slice_index ns i ≡ suc row → In row (rows_of ns)
place_row [] i row lt e = absurd (omega arith)
place_row (zero ∷ ns) zero row lt e = absurd (omega arith)
place_row (zero ∷ ns) (suc i) row lt e = place_row ns i row (omega arith) e
place_row (suc n ∷ ns) zero row lt e = inl (let r : row ≡ n = omega arith in r)
place_row (suc n ∷ ns) (suc i) row lt e = inr (place_row ns i row (omega arith) e)

pub each_entry : (P : EntryFact → Type 0) (version from : ℕ) (ns : List ℕ)
    → ((i row : ℕ) → i < length ns → slice_index ns i ≡ suc row → P (record { version = version; place = from + i; row = row }))
    → Each P (entries_of version from ns)
each_entry P version from [] h = tt
each_entry P version from (zero ∷ ns) h = each_entry P version (suc from) ns (λ i row lt e. subst (λ (p : ℕ). P (record {
  version = version;
  place = p;
  row = row;
})) (let r : from + suc i ≡ suc from + i = omega arith in r) (h (suc i) row (omega arith) e))
each_entry P version from (suc n ∷ ns) h = (
  subst (λ (p : ℕ). P (record { version = version; place = p; row = n })) (let r : from + 0 ≡ from = omega arith in r) (h 0 n (omega arith) refl),
  each_entry P version (suc from) ns (λ i row lt e. subst (λ (p : ℕ). P (record { version = version; place = p; row = row }))
      (let r : from + suc i ≡ suc from + i = omega arith in r) (h (suc i) row (omega arith) e)),
)

-- facts of the version on these rows
pub each_fact : (P : WordFact → Type 0) (version : ℕ) (rows : List ℕ) (ws : List WordFact)
    → ((w : WordFact) → In w ws → w.version ≡ version → In w.row rows → P w) → Each P (facts_on version rows ws)
each_fact P version rows [] h = tt
each_fact P version rows (w ∷ ws) h = let rest = each_fact P version rows ws (λ u i. h u (inr i)) in let none = facts_on version rows ws in
    dite (ℕ_discrete w.version version)
    (λ e. elim (is_in_tells w.row rows) [
      | inl t ↦ subst (λ (b : Bool × Bool). Each P (cond b.0 (cond b.1 (w ∷ none) none) none)) (λ i. (sym (eq-eqb w.version version e) i, sym t.0 i))
          (h w (inl refl) e t.1, rest)
      | inr t ↦ subst (λ (b : Bool × Bool). Each P (cond b.0 (cond b.1 (w ∷ none) none) none)) (λ i. (sym (eq-eqb w.version version e) i, sym t.0 i)) rest
    ])
    (λ n. subst (λ (b : Bool). Each P (cond b (cond (is_in w.row rows) (w ∷ none) none) none)) (sym (ne_eqb w.version version n)) rest)

pub each_place : (P : KnownPlace → Type 0) (version : ℕ) (ws : List WordFact) (from : ℕ) (ns : List ℕ)
    → ((i : ℕ) → i < length ns → P (record { place = from + i; met = slice_index ns i; words = words_on version ws (slice_index ns i) }))
    → Each P (places_known version ws from ns)
each_place P version ws from [] h = tt
each_place P version ws from (n ∷ ns) h = (
  subst (λ (p : ℕ). P (record { place = p; met = n; words = words_on version ws n })) (let r : from + 0 ≡ from = omega arith in r) (h 0 (omega arith)),
  each_place P version ws (suc from) ns (λ i lt. subst (λ (p : ℕ). P (record {
    place = p;
    met = slice_index ns i;
    words = words_on version ws (slice_index ns i);
  })) (let r : from + suc i ≡ suc from + i = omega arith in r) (h (suc i) (omega arith))),
)
