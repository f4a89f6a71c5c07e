-- The rows that are kept so far, and one place more.
use Rattle.std.proofs.Common.{◌≡◌, ◌≢◌, ◌⊎◌, ℕ, zero, suc, List, [], ◌∷◌, ◌++◌, inl, inr, length, length-append, length-set, slice_index}
use Rattle.std.proofs.Common.{get_or-set_same, get_or-set_other, sym, refl, ap, ◌∙◌, subst, arith}
use Rattle.std.specs.Prelude.{◌↔◌, Option, Some, None, replicate}
use mathlib.Core.Option as maybe
use mathlib.Core.Logic.{dite}
use native.Mathlib.Decide.{ℕ_discrete}
use Rattle.atomic_table.proofs.Lists.{at_longer}
use Rattle.pin_rule.specs.declared.sizes.Sizes.{Sizes}
use Rattle.pin_rule.specs.Rows.{on_path}
use Rattle.pin_rule.specs.NextVersion.{IsPast}
use Rattle.pin_rule.proofs.Lists.{at_short}
use Rattle.version_store.specs.Rows.{Found}
use Rattle.version_store.specs.Stages.{IsFoundAt, key_in}
use Rattle.version_store.specs.Choices.{count_taken, PutsAtFirst, HasChosen}
use Rattle.version_store.proofs.Taken.{one_more, none_taken}
use Rattle.version_store.proofs.PageRows.{at_none, at_some, at_new}

zeros : (n p row : ℕ) → slice_index (replicate n 0) p ≡ suc row → ⊥
zeros zero p row e = absurd (omega arith)
zeros (suc n) zero row e = absurd (omega arith)
zeros (suc n) (suc p) row e = zeros n p row e

zeros_long : (n : ℕ) → length (replicate n (let z : ℕ = 0 in z)) ≡ n
zeros_long zero = refl
zeros_long (suc n) = ap suc (zeros_long n)

-- a choice by tests that say the same
pub choice_as : (keeps keeps' next next' : List ℕ → Type 0) (words : List ℕ) (X Y : Type 0) → ((w : List ℕ) → keeps' w ↔ keeps w)
    → ((w : List ℕ) → next' w → next w)
    → (keeps' words × next' words × X) ⊎ ((¬ (keeps' words)) × Y) → (keeps words × next words × X) ⊎ ((¬ (keeps words)) × Y)
choice_as keeps keeps' next next' words X Y same fits c = elim c [
  | inl k ↦ inl ((same words).0 k.0, fits words k.1, k.2)
  | inr d ↦ inr (λ k. d.0 ((same words).1 k), d.1)
]

module _ (keeps next : List ℕ → Type 0) (z : Sizes) where
  pub begins : (places : List ℕ) → places ≡ replicate z.places 0 → HasChosen keeps next z [] places
  begins places e = subst (HasChosen keeps next z []) (sym e) (record {
    room = zeros_long z.places;
    few = (let h = none_taken z.places in omega arith);
    kept = λ p row is. absurd (zeros z.places p row is);
    every = λ o f a. absurd (maybe.some-ne-none (Some f) (sym a));
    once = λ p q row a b. absurd (zeros z.places p row a);
  })

  module _ (found : List (Option Found)) (places : List ℕ) (h : HasChosen keeps next z found places) where
    -- the places stay, though one more was looked at
    longer : (x : Option Found) → ((o : ℕ) (f : Found) → IsFoundAt (found ++ x ∷ []) o f → keeps f.words → IsFoundAt found o f)
        → HasChosen keeps next z (found ++ x ∷ []) places
    longer x back = record {
      room = h.room;
      few = (let a = h.few in let n = length-append found (x ∷ []) in omega arith);
      kept = λ p row is. let k = h.kept p row is in (k.0, k.1, at_longer found (x ∷ []) k.0 (Some k.1) k.2, k.3, k.4, k.5, k.6);
      every = λ o f a keep. h.every o f (back o f a keep) keep;
      once = h.once;
    }

    pub empty : HasChosen keeps next z (found ++ None ∷ []) places
    empty = longer None (λ o f a _. at_none found o f a)

    dropped : (f : Found) → ¬ (keeps f.words) → HasChosen keeps next z (found ++ Some f ∷ []) places
    dropped f not = longer (Some f) (λ o g a keep. elim (at_some found f o g a) [
      | inl old ↦ old
      | inr new ↦ absurd (not (subst (λ (y : Found). keeps y.words) (sym new.1) keep))
    ])

    -- a row more is kept
    module _ (f : Found) (keep : keeps f.words) (fits : next f.words) (new : List ℕ) (puts : PutsAtFirst z (key_in f.words) (suc f.row) places new)
        (rows_once : (o p : ℕ) (a b : Found) → IsFoundAt (found ++ Some f ∷ []) o a → IsFoundAt (found ++ Some f ∷ []) p b → a.row ≡ b.row → o ≡ p) where
      abbrev at : ℕ
      at = puts.0

      here : slice_index new puts.0 ≡ suc f.row
      here = ap (λ (l : List ℕ). slice_index l at) puts.3 ∙ get_or-set_same places at (suc f.row) 0 (let a = h.room in let lt = puts.1 in omega arith)

      else_ : (p : ℕ) → p ≢ puts.0 → slice_index new p ≡ slice_index places p
      else_ p n = ap (λ (l : List ℕ). slice_index l p) puts.3 ∙ get_or-set_other places at p (suc f.row) 0 n

      -- what was taken stays so
      still_taken : (p : ℕ) → slice_index places p ≢ 0 → slice_index new p ≢ 0
      still_taken p n e = dite (ℕ_discrete p at)
          (λ same. n (ap (slice_index places) same ∙ puts.2))
          (λ other. n (sym (else_ p other) ∙ e))

      past_on : (key : List ℕ) (p : ℕ) → IsPast z places key p → IsPast z new key p
      past_on key p k = (k.0, k.1, k.2, λ before lt. still_taken (on_path z key before) (k.3 before lt))

      -- a row that stood there before is another than this
      old_row : (p row : ℕ) → p ≢ puts.0 → slice_index new p ≡ suc row → row ≢ f.row
      old_row p row n is same = let k = h.kept p row (sym (else_ p n) ∙ is) in
          let same_place = rows_once k.0 (length found) k.1 f (at_longer found (Some f ∷ []) k.0 (Some k.1) k.2) (at_new found f) (k.3 ∙ same) in
          let short = at_short found k.0 (Some k.1) k.2 in omega arith

      kept : HasChosen keeps next z (found ++ Some f ∷ []) new
      kept = record {
        room = ap length puts.3 ∙ length-set places at (suc f.row) ∙ h.room;
        few = (let a = h.few in let n = length-append found (Some f ∷ []) in let m = one_more places at (suc f.row) in
            let e = ap count_taken puts.3 in omega arith);
        kept = λ p row is. dite (ℕ_discrete p at)
            (λ same. (
              length found,
              f,
              at_new found f,
              (let e : suc row ≡ suc f.row = sym is ∙ ap (slice_index new) same ∙ here in omega arith),
              keep,
              fits,
              subst (IsPast z new (key_in f.words)) (sym same) (past_on (key_in f.words) at puts.4),
            ))
            (λ n. let k = h.kept p row (sym (else_ p n) ∙ is) in
            (k.0, k.1, at_longer found (Some f ∷ []) k.0 (Some k.1) k.2, k.3, k.4, k.5, past_on (key_in k.1.words) p k.6));
        every = λ o g a keep_it. elim (at_some found f o g a) [
          | inl old ↦ let e = h.every o g old keep_it in
              (e.0, e.1, else_ e.0 (λ same. let free : slice_index places e.0 ≡ 0 = ap (slice_index places) same ∙ puts.2 in let k = e.2 in omega arith) ∙ e.2)
          | inr new_one ↦ (at, puts.1, here ∙ ap (λ (y : Found). suc y.row) new_one.1)
        ];
        once = λ p q row a b. dite (ℕ_discrete p at)
            (λ same. dite (ℕ_discrete q at)
            (λ too. same ∙ sym too)
            (λ n. let e : suc row ≡ suc f.row = sym a ∙ ap (slice_index new) same ∙ here in absurd (old_row q row n b (omega arith))))
            (λ n. dite (ℕ_discrete q at)
            (λ too. let e : suc row ≡ suc f.row = sym b ∙ ap (slice_index new) too ∙ here in absurd (old_row p row n a (omega arith)))
            (λ m. h.once p q row (sym (else_ p n) ∙ a) (sym (else_ q m) ∙ b)));
      }

    -- the row that was read is kept at its place, or dropped
    pub chosen : (f : Found) (new : List ℕ) → (keeps f.words × next f.words × PutsAtFirst z (key_in f.words) (suc f.row) places new) ⊎
        ((¬ (keeps f.words)) × (new ≡ places))
        → ((o p : ℕ) (a b : Found) → IsFoundAt (found ++ Some f ∷ []) o a → IsFoundAt (found ++ Some f ∷ []) p b → a.row ≡ b.row → o ≡ p)
        → HasChosen keeps next z (found ++ Some f ∷ []) new
    chosen f new c rows_once = elim c [
      | inl k ↦ kept f k.0 k.1 new k.2 rows_once
      | inr d ↦ subst (HasChosen keeps next z (found ++ Some f ∷ [])) (sym d.1) (dropped f d.0)
    ]
