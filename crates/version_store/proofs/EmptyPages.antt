-- The page of a new table is empty.
use Rattle.std.proofs.Common.{◌≡◌, ℕ, zero, suc, ◌<◌, [], inl, inr, refl, sym, ap, ◌∙◌, arith}
use mathlib.Core.Logic.{dite}
use native.Mathlib.Decide.{ℕ_discrete}
use Rattle.pin_rule.specs.declared.sizes.Sizes.{Sizes}
use Rattle.pin_rule.specs.declared.view.KnownPlace.{KnownPlace}
use Rattle.pin_rule.specs.Lists.{In}
use Rattle.pin_rule.specs.Steps.{empty_places}
use Rattle.version_store.specs.Graphs.{rows_known, IsWholeKnown}

place_in : (n place : ℕ) → place < n → (k : KnownPlace) × In k (empty_places n) × (k.place ≡ place)
place_in zero place lt = absurd (omega arith)
place_in (suc n) place lt = dite (ℕ_discrete n place) (λ e. (record { place = n; met = 0; words = [] }, inl refl, e))
    (λ ne. let r = place_in n place (omega arith) in (r.0, inr r.1, r.2))

is_empty : (n : ℕ) (k : KnownPlace) → In k (empty_places n) → (k.place < n) × (k.met ≡ 0)
is_empty zero k i = absurd i
is_empty (suc n) k i = elim i [
  | inl e ↦ let p = ap (λ (x : KnownPlace). x.place) e in (omega arith, ap (λ (x : KnownPlace). x.met) e)
  | inr t ↦ let r = is_empty n k t in let lt = r.0 in (omega arith, r.1)
]

pub empty_known : (z : Sizes) → IsWholeKnown z (empty_places z.places)
empty_known z = record {
  every = λ place lt. place_in z.places place lt;
  inside = λ k i. (is_empty z.places k i).0;
  rows = λ k row i e. let r = (is_empty z.places k i).1 in let s : 0 ≡ suc row = sym r ∙ e in absurd (omega arith);
}

pub no_rows : (n : ℕ) → rows_known (empty_places n) ≡ []
no_rows zero = refl
no_rows (suc n) = no_rows n
