-- Lists, and numbers that clash.
use Rattle.std.proofs.Common.{◌≡◌, ◌≢◌, ℕ, zero, suc, ◌+◌, ◌<◌, ◌≤◌, List, [], ◌∷◌, ◌++◌, ◌⊎◌, map, take, inl, inr, length, set, sym, refl, ap, subst, arith}
use Rattle.std.proofs.lemmas.Bool.{cases_lt}
use mathlib.Core.Option as maybe
use lib.ListN.{get_elem?}
use Rattle.pin_rule.specs.Lists.{Each, In, total, sum_to}

module _ {A : Type 0} where
  pub each_map : (P Q : A → Type 0) → ((x : A) → P x → Q x) → (l : List A) → Each P l → Each Q l
  each_map P Q f [] h = tt
  each_map P Q f (x ∷ xs) h = (f x h.0, each_map P Q f xs h.1)

  pub each_in : (P : A → Type 0) (x : A) (l : List A) → Each P l → In x l → P x
  each_in P x [] h i = absurd i
  each_in P x (y ∷ ys) h i = elim i [ inl e ↦ subst P (sym e) h.0 | inr t ↦ each_in P x ys h.1 t ]

  pub each_append : (P : A → Type 0) (l m : List A) → Each P l → Each P m → Each P (l ++ m)
  each_append P [] m h k = k
  each_append P (x ∷ xs) m h k = (h.0, each_append P xs m h.1 k)

  pub each_mapped : {B : Type 0} (P : A → Type 0) (Q : B → Type 0) (f : A → B) → ((x : A) → P x → Q (f x)) → (l : List A) → Each P l → Each Q (map f l)
  each_mapped P Q f g [] h = tt
  each_mapped P Q f g (x ∷ xs) h = (g x h.0, each_mapped P Q f g xs h.1)

  pub in_left : (x : A) (l m : List A) → In x l → In x (l ++ m)
  in_left x [] m i = absurd i
  in_left x (y ∷ ys) m i = elim i [ inl e ↦ inl e | inr t ↦ inr (in_left x ys m t) ]

  pub in_right : (x : A) (l m : List A) → In x m → In x (l ++ m)
  in_right x [] m i = i
  in_right x (y ∷ ys) m i = inr (in_right x ys m i)

  pub in_mapped : {B : Type 0} (f : A → B) (x : A) (l : List A) → In x l → In (f x) (map f l)
  in_mapped f x [] i = absurd i
  in_mapped f x (y ∷ ys) i = elim i [ inl e ↦ inl (ap f e) | inr t ↦ inr (in_mapped f x ys t) ]

  pub at_short : (l : List A) (i : ℕ) (a : A) → get_elem? l i ≡ maybe.some a → i < length l
  at_short [] i a e = absurd (maybe.some-ne-none a (sym e))
  at_short (x ∷ xs) zero a e = omega arith
  at_short (x ∷ xs) (suc i) a e = let h = at_short xs i a e in omega arith

  pub in_at : (x : A) (l : List A) → In x l → (i : ℕ) × (get_elem? l i ≡ maybe.some x)
  in_at x [] i = absurd i
  in_at x (y ∷ ys) i = elim i [ inl e ↦ (0, ap maybe.some (sym e)) | inr t ↦ let r = in_at x ys t in (suc r.0, r.1) ]

  pub at_in : (x : A) (l : List A) (i : ℕ) → get_elem? l i ≡ maybe.some x → In x l
  at_in x [] i e = absurd (maybe.some-ne-none x (sym e))
  at_in x (y ∷ ys) zero e = inl (sym (maybe.some-injective y x e))
  at_in x (y ∷ ys) (suc i) e = inr (at_in x ys i e)

  pub take_prefix : (l m : List A) → take (length l) (l ++ m) ≡ l
  take_prefix [] m = refl
  take_prefix (x ∷ xs) m = ap (λ (t : List A). x ∷ t) (take_prefix xs m)

  pub total_at : (f : A → ℕ) (l : List A) (i : ℕ) (v : A) → get_elem? l i ≡ maybe.some v → f v ≤ total f l
  total_at f [] i v e = absurd (maybe.some-ne-none v (sym e))
  total_at f (x ∷ xs) zero v e = let h : f x ≡ f v = ap f (maybe.some-injective x v e) in omega arith
  total_at f (x ∷ xs) (suc i) v e = let h = total_at f xs i v e in omega arith

  pub total_two : (f : A → ℕ) (l : List A) (i j : ℕ) (v w : A) → get_elem? l i ≡ maybe.some v → get_elem? l j ≡ maybe.some w → i ≢ j → f v + f w ≤ total f l
  total_two f [] i j v w e d n = absurd (maybe.some-ne-none v (sym e))
  total_two f (x ∷ xs) zero zero v w e d n = absurd (n refl)
  total_two f (x ∷ xs) zero (suc j) v w e d n = let h : f x ≡ f v = ap f (maybe.some-injective x v e) in let k = total_at f xs j w d in omega arith
  total_two f (x ∷ xs) (suc i) zero v w e d n = let h : f x ≡ f w = ap f (maybe.some-injective x w d) in let k = total_at f xs i v e in omega arith
  total_two f (x ∷ xs) (suc i) (suc j) v w e d n = let h = total_two f xs i j v w e d (λ s. n (ap suc s)) in omega arith

  pub total_set : (f : A → ℕ) (l : List A) (i : ℕ) (v w : A) → get_elem? l i ≡ maybe.some v → total f (set l i w) + f v ≡ total f l + f w
  total_set f [] i v w e = absurd (maybe.some-ne-none v (sym e))
  total_set f (x ∷ xs) zero v w e = let h : f x ≡ f v = ap f (maybe.some-injective x v e) in omega arith
  total_set f (x ∷ xs) (suc i) v w e = let h = total_set f xs i v w e in omega arith

  pub total_alike : (f : A → ℕ) (l : List A) (i : ℕ) (v w : A) → get_elem? l i ≡ maybe.some v → f w ≡ f v → total f (set l i w) ≡ total f l
  total_alike f l i v w at e = let t = total_set f l i v w at in omega arith

  pub total_le : (f g : A → ℕ) → ((x : A) → f x ≤ g x) → (l : List A) → total f l ≤ total g l
  total_le f g h [] = omega arith
  total_le f g h (x ∷ xs) = let a = h x in let b = total_le f g h xs in omega arith

  pub total_zero : (f : A → ℕ) (l : List A) → ((i : ℕ) (x : A) → get_elem? l i ≡ maybe.some x → f x ≡ 0) → total f l ≡ 0
  total_zero f [] h = refl
  total_zero f (x ∷ xs) h = let a = h 0 x refl in let b = total_zero f xs (λ i y e. h (suc i) y e) in omega arith

  -- the last of a list, or one of those before it
  pub at_end : (l : List A) (a b : A) (i : ℕ) → get_elem? (l ++ a ∷ []) i ≡ maybe.some b → (get_elem? l i ≡ maybe.some b) ⊎ ((i ≡ length l) × (a ≡ b))
  at_end [] a b zero e = inr (refl, maybe.some-injective a b e)
  at_end [] a b (suc i) e = absurd (maybe.some-ne-none b (sym e))
  at_end (x ∷ xs) a b zero e = inl e
  at_end (x ∷ xs) a b (suc i) e = elim (at_end xs a b i e) [ inl t ↦ inl t | inr t ↦ inr (ap suc t.0, t.1) ]

  pub total_append : (f : A → ℕ) (l : List A) (a : A) → total f (l ++ a ∷ []) ≡ total f l + f a
  total_append f [] a = omega arith
  total_append f (x ∷ xs) a = let h = total_append f xs a in omega arith

pub not_zero : (n m : ℕ) → n ≡ 0 → n ≡ suc m → ⊥
not_zero n m a b = omega arith

pub not_one : (n : ℕ) → n ≡ 1 → n ≡ 0 → ⊥
not_one n a b = omega arith

pub same_row : (n a b : ℕ) → n ≡ suc a → n ≡ suc b → a ≡ b
same_row n a b p q = omega arith

pub sum_same : (n : ℕ) (f g : ℕ → ℕ) → ((i : ℕ) → i < n → f i ≡ g i) → sum_to n f ≡ sum_to n g
sum_same zero f g h = refl
sum_same (suc n) f g h = let a = sum_same n f g (λ i lt. h i (omega arith)) in let b = h n (omega arith) in omega arith

pub sum_at : (n : ℕ) (f : ℕ → ℕ) (i : ℕ) → i < n → f i ≤ sum_to n f
sum_at zero f i h = absurd (omega arith)
sum_at (suc n) f i h = elim (cases_lt i n) [
  | inl lt ↦ let a = sum_at n f i lt in omega arith
  | inr ge ↦ let same : i ≡ n = omega arith in let e =
      ap f same in omega arith
]

-- one of them is one more
pub sum_more : (n : ℕ) (f g : ℕ → ℕ) (i : ℕ) → i < n → g i ≡ f i + 1 → ((j : ℕ) → j < n → j ≢ i → g j ≡ f j) → sum_to n g ≡ sum_to n f + 1
sum_more zero f g i h e s = absurd (omega arith)
sum_more (suc n) f g i h e s = elim (cases_lt i n) [
  | inl lt ↦ let a = sum_more n f g i lt e (λ j lj ne. s j (omega arith) ne) in let b = s n (omega arith) (λ x. omega arith) in omega arith
  | inr ge ↦ let same : i ≡ n = omega arith in let b : sum_to n g ≡ sum_to n f = sum_same n g f (λ j lt. s j (omega arith) (λ x. omega arith)) in
      let c = ap f same in let d = ap g same in omega arith
]
