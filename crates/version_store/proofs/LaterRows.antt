-- Places that are known better have the same rows.
use Rattle.std.proofs.Common.{◌≡◌, ◌≢◌, ℕ, zero, suc, ◌+◌, ◌<◌, List, [], ◌∷◌, inl, inr, eqb, eq-eqb, sym, refl, ap, ◌∙◌, arith}
use mathlib.Core.Bool.{cond}
use Rattle.std.specs.Prelude.{Bool, true, false}
use Rattle.pin_rule.specs.declared.view.KnownPlace.{KnownPlace}
use Rattle.pin_rule.specs.Lists.{In}
use Rattle.pin_rule.proofs.Bools.{no_bool}
use Rattle.pin_rule.proofs.Frames.{content_same}
use Rattle.slot_store.specs.Known.{IsLater, AreLater}
use Rattle.slot_store.proofs.LaterPlaces.{later_in, later_back}
use Rattle.version_store.specs.Graphs.{word_in, row_known, rows_known, IsReadWhole}
use Rattle.version_store.specs.Learning.{Grown}
use Rattle.version_store.proofs.GraphRows.{word_in_is}

pub grown_later : (ks ls : List KnownPlace) → AreLater ks ls → Grown ks ls
grown_later ks ls a = record { on = later_in ks ls a; back = later_back ks ls a }

pub row_of_met : (n : ℕ) → n ≢ 0 → (row : ℕ) × (n ≡ suc row)
row_of_met zero ne = absurd (ne refl)
row_of_met (suc n) ne = (n, refl)

row_later : (k l : KnownPlace) → IsLater k l → IsReadWhole k.words → ((index a b : ℕ) → In (index, a) l.words → In (index, b) l.words → a ≡ b)
    → row_known l ≡ row_known k
row_later k l later read once =
    let same : (index : ℕ) → index < 2 + (word_in k.words 0 + word_in k.words 1) → word_in l.words index ≡ word_in k.words index
    = λ index lt. let there = later.2 _ (read index lt) in
    once index (word_in l.words index) (word_in k.words index) (word_in_is l.words index (word_in k.words index) there) there in
    let a = same 0 (omega arith) in let b = same 1 (omega arith) in
    content_same (word_in l.words) (word_in k.words) (2 + (word_in k.words 0 + word_in k.words 1)) (omega arith) (λ index lt. same index lt)

rows_by : (b : Bool) (k l : KnownPlace) (ks ls : List KnownPlace) → (b ≡ false → row_known l ≡ row_known k) → rows_known ls ≡ rows_known ks
    → cond b (rows_known ls) (row_known l ∷ rows_known ls) ≡ cond b (rows_known ks) (row_known k ∷ rows_known ks)
rows_by true k l ks ls row rest = rest
rows_by false k l ks ls row rest = let first = row refl in λ i. first i ∷ rest i

pub same_rows : (ks ls : List KnownPlace) → AreLater ks ls → ((k : KnownPlace) (row : ℕ) → In k ks → k.met ≡ suc row → IsReadWhole k.words)
    → ((l : KnownPlace) (row index a b : ℕ) → In l ls → l.met ≡ suc row → In (index, a) l.words → In (index, b) l.words → a ≡ b)
    → rows_known ls ≡ rows_known ks
same_rows [] [] a read once = refl
same_rows [] (l ∷ ls) a read once = absurd a
same_rows (k ∷ ks) [] a read once = absurd a
same_rows (k ∷ ks) (l ∷ ls) a read once = ap (λ (n : ℕ). cond (eqb n 0) (rows_known ls) (row_known l ∷ rows_known ls)) a.0.1
    ∙ rows_by (eqb k.met 0) k l ks ls
    (λ e. let row = row_of_met k.met (λ z. no_bool (sym e ∙ eq-eqb k.met 0 z)) in
    row_later k l a.0 (read k row.0 (inl refl) row.1) (λ index x y. once l row.0 index x y (inl refl) (a.0.1 ∙ row.1)))
    (same_rows ks ls a.1 (λ j row i. read j row (inr i)) (λ m row index x y i. once m row index x y (inr i)))
