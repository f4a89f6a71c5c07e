-- That all is known is kept in a bench as a bare fact; what it says is found again by a search of the list.
use Rattle.std.proofs.Common.{◌≡◌, ◌≢◌, ◌⊎◌, ℕ, List, [], ◌∷◌, inl, inr, refl, sym, ap, ◌∙◌, arith}
use Rattle.std.proofs.Math.Logic.{∥∥₁_elim}
use Rattle.std.proofs.lemmas.Bool.{cases_lt}
use mathlib.Core.Logic.{dite}
use native.Mathlib.Decide.{ℕ_discrete}
use Rattle.pin_rule.specs.declared.sizes.Sizes.{Sizes}
use Rattle.pin_rule.specs.declared.view.KnownPlace.{KnownPlace}
use Rattle.pin_rule.specs.Lists.{In}
use Rattle.version_store.specs.Graphs.{word_in, IsWholeKnown}
use Rattle.version_store.proofs.GraphRows.{word_in_is}

find_place : (ks : List KnownPlace) (place : ℕ) → ((k : KnownPlace) × In k ks × (k.place ≡ place)) ⊎ ((k : KnownPlace) → In k ks → k.place ≢ place)
find_place [] place = inr (λ k i. absurd i)
find_place (x ∷ ks) place = dite (ℕ_discrete x.place place) (λ e. inl (x, inl refl, e)) (λ ne. elim (find_place ks place) [
  | inl r ↦ inl (r.0, inr r.1, r.2)
  | inr never_there ↦ inr (λ k i e. elim i [ inl s ↦ ne (ap (λ (y : KnownPlace). y.place) (sym s) ∙ e) | inr t ↦ never_there k t e ])
])

find_index : (ws : List (ℕ × ℕ)) (index : ℕ) → In (index, word_in ws index) ws ⊎ ((a : ℕ) → In (index, a) ws → ⊥)
find_index [] index = inr (λ a i. i)
find_index (w ∷ ws) index = dite (ℕ_discrete w.0 index) (λ e. inl (word_in_is (w ∷ ws) index w.1 (inl (λ k. (sym e k, w.1)))))
    (λ ne. elim (find_index ws index) [
      | inl r ↦ inl (word_in_is (w ∷ ws) index (word_in ws index) (inr r))
      | inr never_there ↦ inr (λ a i. elim i [ inl s ↦ ne (ap (λ (p : ℕ × ℕ). p.0) (sym s)) | inr t ↦ never_there a t ])
    ])

never : (x y : ⊥) → x ≡ y
never x y = absurd x

pub known_again : (z : Sizes) (ks : List KnownPlace) → ∥ IsWholeKnown z ks ∥₁ → IsWholeKnown z ks
known_again z ks told = record {
  every = λ place lt. elim (find_place ks place) [
    | inl r ↦ r
    | inr never_there ↦ absurd (∥∥₁_elim told never (λ h. let k = h.every place lt in never_there k.0 k.1 k.2))
  ];
  inside = λ k i. elim (cases_lt k.place z.places) [
    | inl lt ↦ lt
    | inr ge ↦ absurd (∥∥₁_elim told never (λ h. let lt = h.inside k i in omega arith))
  ];
  rows = λ k row i e index lt. elim (find_index k.words index) [
    | inl r ↦ r
    | inr never_there ↦ absurd (∥∥₁_elim told never (λ h. never_there (word_in k.words index) (h.rows k row i e index lt)))
  ];
}
