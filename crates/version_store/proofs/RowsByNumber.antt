-- The words of the rows that were found, by the rows' numbers; and members of lists by their places.
use Rattle.std.proofs.Common.{◌≡◌, ℕ, zero, suc, ◌<◌, List, [], ◌∷◌, inl, inr, length, slice_index, eq-eqb, ne_eqb, sym, refl, ap, ◌∙◌, arith}
use mathlib.Core.Option as maybe
use mathlib.Core.Bool.{cond}
use mathlib.Core.Logic.{dite}
use native.Mathlib.Decide.{ℕ_discrete}
use lib.Dec.{eqb}
use Rattle.std.specs.Prelude.{Option, Some, None}
use Rattle.pin_rule.specs.Lists.{In}
use Rattle.pin_rule.proofs.Seats.{none_some, same_some}
use Rattle.version_store.specs.Rows.{Found}
use Rattle.version_store.specs.Stages.{IsFoundAt}

-- the words of the first row of this number
abbrev pub words_by : List (Option Found) → ℕ → ℕ → ℕ
words_by [] row = λ _. 0
words_by (None ∷ fs) row = words_by fs row
words_by (Some f ∷ fs) row = cond (eqb f.row row) (slice_index f.words) (words_by fs row)

-- where no row was found twice, it is the row at its place
pub words_at : (found : List (Option Found)) → ((o p : ℕ) (f g : Found) → IsFoundAt found o f → IsFoundAt found p g → f.row ≡ g.row → o ≡ p)
    → (o : ℕ) (f : Found) → IsFoundAt found o f → words_by found f.row ≡ slice_index f.words
words_at [] once o f a = absurd (maybe.some-ne-none (Some f) (sym a))
words_at (None ∷ fs) once zero f a = absurd (none_some f (maybe.some-injective None (Some f) a))
words_at (None ∷ fs) once (suc o) f a = words_at fs (λ i j x y p q e. let k = once (suc i) (suc j) x y p q e in omega arith) o f a
words_at (Some g ∷ fs) once zero f a = let same = same_some g f (maybe.some-injective (Some g) (Some f) a) in
    ap (λ b. cond b (slice_index g.words) (words_by fs f.row)) (eq-eqb g.row f.row (ap (λ (x : Found). x.row) same))
    ∙ ap (λ (x : Found). slice_index x.words) same
words_at (Some g ∷ fs) once (suc o) f a = dite (ℕ_discrete g.row f.row)
    (λ e. let k = once 0 (suc o) g f refl a e in absurd (omega arith))
    (λ n. ap (λ b. cond b (slice_index g.words) (words_by fs f.row)) (ne_eqb g.row f.row n)
    ∙ words_at fs (λ i j x y p q e. let k = once (suc i) (suc j) x y p q e in omega arith) o f a)

-- Members by their places

pub in_slice : (x : ℕ) (l : List ℕ) → In x l → (i : ℕ) × (i < length l) × (slice_index l i ≡ x)
in_slice x [] i = absurd i
in_slice x (y ∷ ys) i = elim i [
  | inl e ↦ (0, omega arith, sym e)
  | inr t ↦ let r = in_slice x ys t in (suc r.0, (let lt = r.1 in omega arith), r.2)
]

pub slice_in : (l : List ℕ) (i : ℕ) → i < length l → In (slice_index l i) l
slice_in [] i lt = absurd (omega arith)
slice_in (y ∷ ys) zero lt = inl refl
slice_in (y ∷ ys) (suc i) lt = inr (slice_in ys i (omega arith))
