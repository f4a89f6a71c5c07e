-- Chains stay right as keys are appended.
use Rattle.std.proofs.Common.{◌≡◌, inl, inr, ◌⊎◌, ℕ, zero, suc, ◌+◌, ◌<◌, ◌≤◌, List, [], ◌∷◌, ◌++◌, length, replicate}
use Rattle.std.proofs.Common.{Some, slice_get, refl, sym, ap, ◌∙◌, subst, arith}
use Rattle.std.proofs.Math.ListN.{set}
use Rattle.std.proofs.lemmas.List.{get_or-replicate, length-replicate}
use Rattle.std.proofs.lemmas.Option.{slice_get_within, get_or_from_slice_get, same_Some}
use Rattle.std.proofs.lemmas.Bool.{cases_lt}
use Rattle.gss.specs.Numbers.{IsGreatest, HasNone}
use Rattle.gss.specs.Chains.{none, TellsLeast, least, no_least, TellsGreatest, greatest, no_greatest, IsKeyAt, IsKeyBehind, IsEarlier, AreBelow}
use Rattle.gss.specs.Chains.{AreFirsts, AreLasts, AreNexts, AreOlders}

-- ---- places of lists

-- two numbers are the same or not
pub cases_same : (a b : ℕ) → (a ≡ b) ⊎ (a ≡ b → ⊥)
cases_same a b = elim (cases_lt a b) [
  | inl below ↦ inr (λ e. omega (arith, below, e))
  | inr above ↦ elim (cases_lt b a) [ inl more ↦ inr (λ e. omega (arith, more, e)) | inr same ↦ inl (omega (arith, above, same)) ]
]

pub get_left : {X : Type 0} (xs ys : List X) (i : ℕ) (x : X) → slice_get xs i ≡ Some x → slice_get (xs ++ ys) i ≡ Some x
get_left [] ys i x at = absurd (omega (arith, slice_get_within [] i x at))
get_left (y ∷ xs) ys zero x at = at
get_left (y ∷ xs) ys (suc i) x at = get_left xs ys i x at

pub get_new : {X : Type 0} (xs : List X) (x : X) → slice_get (xs ++ x ∷ []) (length xs) ≡ Some x
get_new [] x = refl
get_new (y ∷ xs) x = get_new xs x

-- an element of two lists is one of the first, or of the second at what is left of the place
pub get_parts : {X : Type 0} (xs ys : List X) (i : ℕ) (x : X) → slice_get (xs ++ ys) i ≡ Some x
    → (slice_get xs i ≡ Some x) ⊎ ((k : ℕ) × (i ≡ length xs + k) × (slice_get ys k ≡ Some x))
get_parts [] ys i x is = inr (i, omega arith, is)
get_parts (y ∷ xs) ys zero x is = inl is
get_parts (y ∷ xs) ys (suc i) x is = elim (get_parts xs ys i x is) [
  | inl front ↦ inl front
  | inr behind ↦ inr (behind.0, omega (arith, behind.1), behind.2)
]

pub get_last : {X : Type 0} (xs : List X) (y x : X) (i : ℕ) → slice_get (xs ++ y ∷ []) i ≡ Some x → (slice_get xs i ≡ Some x) ⊎ ((i ≡ length xs) × (y ≡ x))
get_last xs y x i is = elim (get_parts xs (y ∷ []) i x is) [
  | inl front ↦ inl front
  | inr behind ↦
      let none : behind.0 < 1 = slice_get_within (y ∷ []) behind.0 x behind.2 in
      let first : behind.0 ≡ 0 = omega (arith, none) in
      inr (omega (arith, behind.1, first), same_Some y x (subst (λ k. slice_get (y ∷ []) k ≡ Some x) first behind.2))
]

pub get_padded : (xs : List ℕ) (n a i x : ℕ) → slice_get (xs ++ replicate n a) i ≡ Some x → (slice_get xs i ≡ Some x) ⊎ ((length xs ≤ i) × (x ≡ a))
get_padded xs n a i x is = elim (get_parts xs (replicate n a) i x is) [
  | inl front ↦ inl front
  | inr behind ↦
      let within : behind.0 < n = omega (arith, slice_get_within (replicate n a) behind.0 x behind.2, length-replicate n a) in
      inr (omega (arith, behind.1), sym (get_or_from_slice_get (replicate n a) behind.0 x a behind.2) ∙ get_or-replicate n behind.0 a a within)
]

pub get_set : {X : Type 0} (xs : List X) (i : ℕ) (y : X) (j : ℕ) (x : X) → slice_get (set xs i y) j ≡ Some x
    → ((j ≡ i) × (y ≡ x)) ⊎ ((j ≡ i → ⊥) × (slice_get xs j ≡ Some x))
get_set [] i y j x is = inr (λ e. absurd (omega (arith, slice_get_within [] j x is)), is)
get_set (z ∷ xs) zero y zero x is = inl (refl, same_Some y x is)
get_set (z ∷ xs) zero y (suc j) x is = inr (λ e. omega (arith, e), is)
get_set (z ∷ xs) (suc i) y zero x is = inr (λ e. omega (arith, e), is)
get_set (z ∷ xs) (suc i) y (suc j) x is = elim (get_set xs i y j x is) [
  | inl here ↦ inl (ap suc here.0, here.1)
  | inr other ↦ inr (λ e. other.0 (omega (arith, e)), other.1)
]

-- ---- what a number tells

-- a property that holds of the same numbers has the same least and greatest
pub least_same : (P Q : ℕ → Type 0) (r : ℕ) → ((l : ℕ) → P l → Q l) → ((l : ℕ) → Q l → P l) → TellsLeast P r → TellsLeast Q r
least_same P Q r to back (least small is) = least small (record { is = to r is.is; least = λ k below q. is.least k below (back k q) })
least_same P Q r to back (no_least e nothing) = no_least e (λ k q. nothing k (back k q))

pub greatest_same : (P Q : ℕ → Type 0) (r : ℕ) → ((l : ℕ) → P l → Q l) → ((l : ℕ) → Q l → P l) → TellsGreatest P r → TellsGreatest Q r
greatest_same P Q r to back (greatest small is) = greatest small (record { is = to r is.is; greatest = λ k above q. is.greatest k above (back k q) })
greatest_same P Q r to back (no_greatest e nothing) = no_greatest e (λ k q. nothing k (back k q))

-- a least number stays so where only greater ones come
pub least_more : (P Q : ℕ → Type 0) (r n : ℕ) → P n → ((l : ℕ) → P l → Q l) → ((l : ℕ) → l < r → Q l → P l) → TellsLeast P r → TellsLeast Q r
least_more P Q r n some to back (least small is) = least small (record { is = to r is.is; least = λ k below q. is.least k below (back k below q) })
least_more P Q r n some to back (no_least e nothing) = absurd (nothing n some)

-- what a number tells that is none, and that is not
pub told_none : (P : ℕ → Type 0) (r : ℕ) → r ≡ none → TellsGreatest P r → HasNone P
told_none P r e (greatest small is) = absurd (omega (arith, small, e))
told_none P r e (no_greatest f nothing) = nothing

pub told_some : (P : ℕ → Type 0) (r : ℕ) → (r ≡ none → ⊥) → TellsGreatest P r → IsGreatest P r
told_some P r n (greatest small is) = is
told_some P r n (no_greatest f nothing) = absurd (n f)

-- ---- one key more

module _ (keys : List ℕ) (key m : ℕ) (size : m ≡ length keys) where
  more : List ℕ
  more = keys ++ key ∷ []

  left : (k l : ℕ) → IsKeyAt keys k l → IsKeyAt (keys ++ key ∷ []) k l
  left k l at = get_left keys (key ∷ []) l k at

  here : IsKeyAt (keys ++ key ∷ []) key m
  here = subst (λ n. slice_get (keys ++ key ∷ []) n ≡ Some key) (sym size) (get_new keys key)

  below : (k l : ℕ) → IsKeyAt keys k l → l < m
  below k l at = omega (arith, slice_get_within keys l k at, size)

  cases : (k l : ℕ) → IsKeyAt (keys ++ key ∷ []) k l → IsKeyAt keys k l ⊎ ((l ≡ m) × (key ≡ k))
  cases k l at = elim (get_last keys key k l at) [ inl old ↦ inl old | inr new ↦ inr (omega (arith, new.0, size), new.1) ]

  -- a place before the new one has the key that it had
  old : (k l : ℕ) → l < m → IsKeyAt (keys ++ key ∷ []) k l → IsKeyAt keys k l
  old k l within at = elim (cases k l at) [ inl before ↦ before | inr new ↦ absurd (omega (arith, within, new.0)) ]

  -- a place of another key is an old one
  other : (k l : ℕ) → (key ≡ k → ⊥) → IsKeyAt (keys ++ key ∷ []) k l → IsKeyAt keys k l
  other k l differs at = elim (cases k l at) [ inl before ↦ before | inr new ↦ absurd (differs new.1) ]

  pub lasts_more : (lasts : List ℕ) → m < none → AreLasts keys lasts → AreLasts (keys ++ key ∷ []) (set lasts key m)
  lasts_more lasts small are k r at = elim (get_set lasts key m k r at) [
    | inl now ↦ greatest (omega (arith, now.1, small)) (record {
      is = subst (λ l. IsKeyAt (keys ++ key ∷ []) k l) now.1 (subst (λ n. IsKeyAt (keys ++ key ∷ []) n m) (sym now.0) here);
      greatest = λ l above has. elim (cases k l has) [
        | inl before ↦ omega (arith, below k l before, above, now.1)
        | inr new ↦ omega (arith, new.0, above, now.1)
      ];
    })
    | inr rest ↦ greatest_same (IsKeyAt keys k) (IsKeyAt (keys ++ key ∷ []) k) r (left k) (λ l has. other k l (λ e. rest.0 (sym e)) has) (are k r rest.1)
  ]

  -- the key had no place
  pub firsts_more : (firsts : List ℕ) → m < none → HasNone (IsKeyAt keys key) → AreFirsts keys firsts → AreFirsts (keys ++ key ∷ []) (set firsts key m)
  firsts_more firsts small nothing are k r at = elim (get_set firsts key m k r at) [
    | inl now ↦ least (omega (arith, now.1, small)) (record {
      is = subst (λ l. IsKeyAt (keys ++ key ∷ []) k l) now.1 (subst (λ n. IsKeyAt (keys ++ key ∷ []) n m) (sym now.0) here);
      least = λ l before has. nothing l (subst (λ n. IsKeyAt keys n l) now.0 (old k l (omega (arith, before, now.1)) has));
    })
    | inr rest ↦ least_same (IsKeyAt keys k) (IsKeyAt (keys ++ key ∷ []) k) r (left k) (λ l has. other k l (λ e. rest.0 (sym e)) has) (are k r rest.1)
  ]

  -- the key had a place
  pub firsts_kept : (firsts : List ℕ) (n : ℕ) → IsKeyAt keys key n → AreFirsts keys firsts → AreFirsts (keys ++ key ∷ []) firsts
  firsts_kept firsts n has are k r at = elim (cases_same key k) [
    | inl same ↦ by_first k r same (are k r at)
    | inr differs ↦ least_same (IsKeyAt keys k) (IsKeyAt (keys ++ key ∷ []) k) r (left k) (λ l is. other k l differs is) (are k r at)
  ]
    where
      by_first : (k r : ℕ) → key ≡ k → TellsLeast (IsKeyAt keys k) r → TellsLeast (IsKeyAt (keys ++ key ∷ []) k) r
      by_first k r same (least small is) = least small (record {
        is = left k r is.is;
        least = λ l before at. is.least l before (old k l (omega (arith, before, below k r is.is)) at);
      })
      by_first k r same (no_least e nothing) = absurd (nothing n (subst (λ q. IsKeyAt keys q n) same has))

  -- no place is behind the new one
  newest : (k : ℕ) → HasNone (IsKeyBehind (keys ++ key ∷ []) k m)
  newest k l later = elim (cases k l later.1) [
    | inl before ↦ omega (arith, later.0, below k l before)
    | inr new ↦ omega (arith, later.0, new.0)
  ]

  -- the chain of a key that had no place
  pub nexts_more : (nexts : List ℕ) → length nexts ≡ m → HasNone (IsKeyAt keys key) → AreNexts keys nexts → AreNexts (keys ++ key ∷ []) (nexts ++ none ∷ [])
  nexts_more nexts long nothing are l r k at is = elim (get_last nexts none r l at) [
    | inl before ↦
        let within : l < m = omega (arith, slice_get_within nexts l r before, long) in
        let was : IsKeyAt keys k l = old k l within is in
        let differs : key ≡ k → ⊥ = λ e. nothing l (subst (λ n. IsKeyAt keys n l) (sym e) was) in
        least_same (IsKeyBehind keys k l) (IsKeyBehind (keys ++ key ∷ []) k l) r (λ n later. (later.0, left k n later.1))
        (λ n later. (later.0, other k n differs later.1)) (are l r k before was)
    | inr new ↦ no_least (sym new.1) (λ n later. newest k n (omega (arith, later.0, new.0, long), later.1))
  ]

  -- the chain of a key whose last place was n
  pub nexts_linked : (nexts : List ℕ) (n : ℕ) → length nexts ≡ m → m < none → IsGreatest (IsKeyAt keys key) n → AreNexts keys nexts
      → AreNexts (keys ++ key ∷ []) (set (nexts ++ none ∷ []) n m)
  nexts_linked nexts n long small last are l r k at is = elim (get_set (nexts ++ none ∷ []) n m l r at) [
    | inl now ↦
        let was : IsKeyAt keys key l = subst (λ q. IsKeyAt keys key q) (sym now.0) last.is in
        let same : key ≡ k = same_Some key k (sym was ∙ old k l (below key l was) is) in
        least (omega (arith, now.1, small)) (record {
          is = (
            omega (arith, below key l was, now.1),
            subst (λ q. IsKeyAt (keys ++ key ∷ []) k q) now.1 (subst (λ q. IsKeyAt
                (keys ++ key ∷ []) q m) same here),
          );
          least = λ q before later. last.greatest q (omega (arith, later.0, now.0))
              (subst (λ p. IsKeyAt keys p q) (sym same) (old k q (omega (arith, before, now.1)) later.1));
        })
    | inr rest ↦ elim (get_last nexts none r l rest.1) [
      | inr new ↦ no_least (sym new.1) (λ q later. newest k q (omega (arith, later.0, new.0, long), later.1))
      | inl before ↦
          let within : l < m = omega (arith, slice_get_within nexts l r before, long) in
          let was : IsKeyAt keys k l = old k l within is in
          elim (cases_same key k) [
            | inr differs ↦ least_same (IsKeyBehind keys k l) (IsKeyBehind (keys ++ key ∷ []) k l) r (λ q later. (later.0, left k q later.1))
                (λ q later. (later.0, other k q differs later.1)) (are l r k before was)
            | inl same ↦ by_next l r k same was rest.0 (are l r k before was)
          ]
    ]
  ]
    where
      by_next : (l r k : ℕ) → key ≡ k → IsKeyAt keys k l → (l ≡ n → ⊥) → TellsLeast (IsKeyBehind keys k l) r → TellsLeast (IsKeyBehind (keys ++ key ∷ []) k l) r
      by_next l r k same was differs (least small is) = least small (record {
        is = (is.is.0, left k r is.is.1);
        least = λ q before later. is.least q before (later.0, old k q (omega (arith, before, below k r is.is.1)) later.1);
      })
      by_next l r k same was differs (no_least e nothing) =
          let mine : IsKeyAt keys key l = subst (λ p. IsKeyAt keys p l) (sym same) was in
          let before : l < n = elim (cases_lt l n) [
            | inl less ↦ less
            | inr above ↦ elim (cases_lt n l) [ inl more ↦ absurd (last.greatest l more mine) | inr equal ↦ absurd (differs (omega (arith, above, equal))) ]
          ] in
          absurd (nothing n (before, subst (λ p. IsKeyAt keys p n) same last.is))

  pub olders_more : (olders : List ℕ) (r : ℕ) → length olders ≡ m → TellsGreatest (IsKeyAt keys key) r → AreOlders keys olders
      → AreOlders (keys ++ key ∷ []) (olders ++ r ∷ [])
  olders_more olders r long tells are l s k at is = elim (get_last olders r s l at) [
    | inl before ↦
        let within : l < m = omega (arith, slice_get_within olders l s before, long) in
        greatest_same (IsEarlier keys k l) (IsEarlier (keys ++ key ∷ []) k l) s (λ q earlier. (earlier.0, left k q earlier.1))
        (λ q earlier. (earlier.0, old k q (omega (arith, earlier.0, within)) earlier.1)) (are l s k before (old k l within is))
    | inr new ↦
        let now : l ≡ m = omega (arith, new.0, long) in
        let same : key ≡ k = elim (cases k l is) [ inl before ↦ absurd (omega (arith, below k l before, now)) | inr this ↦ this.1 ] in
        subst (λ p. TellsGreatest (IsEarlier (keys ++ key ∷ []) p l) s) same (subst (λ p. TellsGreatest (IsEarlier (keys ++ key ∷ []) key l) p) new.1
        (greatest_same (IsKeyAt keys key) (IsEarlier (keys ++ key ∷ []) key l) r (λ q has. (omega (arith, below key q has, now), left key q has))
        (λ q earlier. old key q (omega (arith, earlier.0, now)) earlier.1) tells))
  ]

  pub below_more : (n : ℕ) → key < n → AreBelow keys n → AreBelow (keys ++ key ∷ []) n
  below_more n small are l k at = elim (cases k l at) [ inl before ↦ are l k before | inr new ↦ omega (arith, new.1, small) ]

-- ---- room for more keys

pub firsts_padded : (keys firsts : List ℕ) (n : ℕ) → AreBelow keys (length firsts) → AreFirsts keys firsts → AreFirsts keys (firsts ++ replicate n none)
firsts_padded keys firsts n within are key r at = elim (get_padded firsts n none key r at) [
  | inl before ↦ are key r before
  | inr past ↦ no_least past.1 (λ l has. omega (arith, within l key has, past.0))
]

pub lasts_padded : (keys lasts : List ℕ) (n : ℕ) → AreBelow keys (length lasts) → AreLasts keys lasts → AreLasts keys (lasts ++ replicate n none)
lasts_padded keys lasts n within are key r at = elim (get_padded lasts n none key r at) [
  | inl before ↦ are key r before
  | inr past ↦ no_greatest past.1 (λ l has. omega (arith, within l key has, past.0))
]
