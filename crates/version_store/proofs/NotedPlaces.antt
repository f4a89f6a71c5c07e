-- Which rows eight words of places name, the marks once those of a page were cleared, and words that are set back to 0.
use Rattle.std.proofs.Common.{◌≡◌, ◌⊎◌, ℕ, zero, suc, ◌+◌, ◌-◌, ◌*◌, ◌<◌, ◌≤◌, List, [], ◌∷◌, ◌++◌, inl, inr, length, take, drop, replicate, slice_index}
use Rattle.std.proofs.Common.{set, get_or, get_or-set_same, get_or-set_other, append-nil, refl, sym, ap, ◌∙◌, subst, arith}
use Rattle.std.proofs.lemmas.Bool.{cases_lt}
use Rattle.std.proofs.lemmas.List.{places, same_lists, take-take, drop-take, take-append-drop, take_rest, get_or-take, get_or-drop, get_or-replicate}
use Rattle.std.proofs.lemmas.List.{get_or_default, get_or_past, length-take, length-drop, length-replicate}
use Rattle.std.proofs.lemmas.Nat.{le_or_l, le_or_r}
use Rattle.std.specs.Prelude.{Bool, false, bit_or}
use borrow.Rule.Slice.PartMut.{put_mid}
use Rattle.pin_rule.specs.Lists.{is_in}
use Rattle.pin_rule.specs.Making.{rows_of}

-- Eight words that are 0

or_parts : (a b : ℕ) → bit_or a b ≡ 0 → (a ≡ 0) × (b ≡ 0)
or_parts a b e = ((let h = le_or_l a b in omega arith), (let h = le_or_r a b in omega arith))

pub none_named : (xs : List ℕ) → ((i : ℕ) → i < length xs → slice_index xs i ≡ 0) → rows_of xs ≡ []
none_named [] h = refl
none_named (zero ∷ xs) h = none_named xs (λ i lt. h (suc i) (omega arith))
none_named (suc x ∷ xs) h = absurd (let e = h 0 (omega arith) in omega arith)

below_eight : (P : ℕ → Type 0) → P 0 → P 1 → P 2 → P 3 → P 4 → P 5 → P 6 → P 7 → (i : ℕ) → i < 8 → P i
below_eight P a b c d e f g h zero lt = a
below_eight P a b c d e f g h (suc zero) lt = b
below_eight P a b c d e f g h (suc (suc zero)) lt = c
below_eight P a b c d e f g h (suc (suc (suc zero))) lt = d
below_eight P a b c d e f g h (suc (suc (suc (suc zero)))) lt = e
below_eight P a b c d e f g h (suc (suc (suc (suc (suc zero))))) lt = f
below_eight P a b c d e f g h (suc (suc (suc (suc (suc (suc zero)))))) lt = g
below_eight P a b c d e f g h (suc (suc (suc (suc (suc (suc (suc zero))))))) lt = h
below_eight P a b c d e f g h (suc (suc (suc (suc (suc (suc (suc (suc i)))))))) lt = absurd (omega arith)

pub eight_empty : (xs : List ℕ) → length xs ≡ 8
    → bit_or (bit_or (bit_or (bit_or (bit_or (bit_or (bit_or (slice_index xs 0) (slice_index xs 1)) (slice_index xs 2)) (slice_index xs 3)) (slice_index xs 4))
    (slice_index xs 5)) (slice_index xs 6)) (slice_index xs 7) ≡ 0 → (i : ℕ) → slice_index xs i ≡ 0
eight_empty xs many e i = let h = or_parts _ (slice_index xs 7) e in let g = or_parts _ (slice_index xs 6) h.0 in let f = or_parts _ (slice_index xs 5) g.0 in
    let t = or_parts _ (slice_index xs 4) f.0 in let d = or_parts _ (slice_index xs 3) t.0 in let c = or_parts _ (slice_index xs 2) d.0 in
    let b = or_parts (slice_index xs 0) (slice_index xs 1) c.0 in elim (cases_lt i 8) [
      | inl lt ↦ below_eight (λ k. slice_index xs k ≡ 0) b.0 b.1 c.1 d.1 t.1 f.1 g.1 h.1 i lt
      | inr ge ↦ get_or_past xs i 0 (omega arith)
    ]

-- Eight places more

rows_append : (xs ys : List ℕ) → rows_of (xs ++ ys) ≡ rows_of xs ++ rows_of ys
rows_append [] ys = refl
rows_append (zero ∷ xs) ys = rows_append xs ys
rows_append (suc x ∷ xs) ys = ap (λ (l : List ℕ). x ∷ l) (rows_append xs ys)

take_on : (n m : ℕ) (xs : List ℕ) → take (n + m) xs ≡ take n xs ++ take m (drop n xs)
take_on n m xs = sym (take-append-drop n (take (n + m) xs)) ∙ ap (λ (l : List ℕ). l ++ drop n (take (n + m) xs)) (take-take n (n + m) xs (omega arith))
    ∙ ap (λ (l : List ℕ). take n xs ++ l) (drop-take n m xs)

module _ (places : List ℕ) (group : ℕ) where
  pub eight_on : take ((group + 1) * 8) places ≡ take (group * 8) places ++ take (group * 8 + 8 - group * 8) (drop (group * 8) places)
  eight_on = ap (λ (n : ℕ). take n places) (let r : (group + 1) * 8 ≡ group * 8 + 8 = omega arith in r) ∙ take_on (group * 8) 8 places
      ∙ ap (λ (n : ℕ). take (group * 8) places ++ take n (drop (group * 8) places)) (let r : 8 ≡ group * 8 + 8 - group * 8 = omega arith in r)

  pub eight_none : rows_of (take (group * 8 + 8 - group * 8) (drop (group * 8) places)) ≡ [] → (row : ℕ)
      → is_in row (rows_of (take ((group + 1) * 8) places)) ≡ is_in row (rows_of (take (group * 8) places))
  eight_none e row = ap (λ (l : List ℕ). is_in row (rows_of l)) eight_on ∙ ap (is_in row)
      (rows_append (take (group * 8) places) (take (group * 8 + 8 - group * 8) (drop (group * 8) places))
      ∙ ap (λ (l : List ℕ). rows_of (take (group * 8) places) ++ l) e ∙ append-nil (rows_of (take (group * 8) places)))

  pub rest_on : (groups : ℕ) → group ≡ groups → take (group * 8) places ++ take (length places - groups * 8) (drop (groups * 8) places) ≡ places
  rest_on groups e = ap (λ (l : List ℕ). take (group * 8) places ++ l) (take_rest places (groups * 8))
      ∙ ap (λ (n : ℕ). take (n * 8) places ++ drop (groups * 8) places) e ∙ take-append-drop (groups * 8) places

-- a row that is named within some of the places
pub named_within : (xs : List ℕ) (at n place row : ℕ) → slice_index (take n (drop at xs)) place ≡ suc row → slice_index xs (at + place) ≡ suc row
named_within xs at n place row e = elim (cases_lt place n) [
  | inl lt ↦ sym (get_or-take n (drop at xs) place 0 lt ∙ get_or-drop at xs place 0) ∙ e
  | inr ge ↦ absurd (let none : slice_index (take n (drop at xs)) place ≡ 0 = grind (arith, places) in omega arith)
]

-- Marks that were cleared

module _ (marks : List Bool) (start count : ℕ) (room : start + count ≤ length marks) where
  abbrev pub cleared : List Bool
  cleared = take start marks ++ (replicate count false ++ drop (start + count) marks)

  pub cleared_here : (k : ℕ) → k < count → get_or cleared (start + k) false ≡ false
  cleared_here k lt = grind (arith, places)

  pub cleared_else : (k : ℕ) → (k < start) ⊎ (start + count ≤ k) → get_or cleared k false ≡ get_or marks k false
  cleared_else k other = elim other [
    | inl lt ↦ grind (arith, places)
    | inr ge ↦ grind (arith, places)
  ]

  pub cleared_long : length cleared ≡ length marks
  cleared_long = grind (arith, places)

-- Words that are set back to 0

length-replicate_zero : (n : ℕ) → length (replicate n (let z : ℕ = 0 in z)) ≡ n
length-replicate_zero n = length-replicate n 0

-- all words are 0
pub all_zero : (xs : List ℕ) (n : ℕ) → length xs ≡ n → ((k : ℕ) → k < n → slice_index xs k ≡ 0) → xs ≡ replicate n 0
all_zero xs n many h = same_lists xs (replicate n 0) (many ∙ sym (length-replicate_zero n)) (λ k d lt. get_or_default xs k d 0 lt ∙ h k (omega arith)
    ∙ sym (get_or-replicate n k 0 d (omega arith)))

-- the same words from one on
pub same_from : (xs ys : List ℕ) (at : ℕ) → length xs ≡ length ys → ((k : ℕ) → at ≤ k → slice_index xs k ≡ slice_index ys k) → drop at xs ≡ drop at ys
same_from xs ys at many h = same_lists (drop at xs) (drop at ys) (let a = length-drop at xs in let b = length-drop at ys in omega arith)
    (λ k d lt. let a = length-drop at xs in get_or-drop at xs k d ∙ get_or_default xs (at + k) d 0 (omega arith) ∙ h (at + k) (omega arith)
    ∙ get_or_default ys (at + k) 0 d (omega arith) ∙ sym (get_or-drop at ys k d))

-- a word within some that are 0
pub zero_within : (xs : List ℕ) (at n k : ℕ) → ((i : ℕ) → slice_index (take n (drop at xs)) i ≡ 0) → at ≤ k → k < at + n → slice_index xs k ≡ 0
zero_within xs at n k h ge lt = ap (slice_index xs) (let r : k ≡ at + (k - at) = omega arith in r)
    ∙ sym (get_or-take n (drop at xs) (k - at) 0 (omega arith) ∙ get_or-drop at xs (k - at) 0) ∙ h (k - at)

-- some words were set to 0
module _ (xs ys : List ℕ) (at n : ℕ) (room : at + n ≤ length xs) (zeros : ys ≡ replicate (length (take n (drop at xs))) 0) where
  ys_many : length ys ≡ n
  ys_many = ap length zeros ∙ length-replicate_zero (length (take n (drop at xs)))
      ∙ (let a = length-take n (drop at xs) in let b = length-drop at xs in omega arith)

  ys_zero : ys ≡ replicate n 0
  ys_zero = zeros ∙ ap (λ (k : ℕ). replicate k (let z : ℕ = 0 in z))
      (sym (length-replicate_zero (length (take n (drop at xs)))) ∙ ap length (sym zeros) ∙ ys_many)

  pub put_long : length (put_mid at n xs ys) ≡ length xs
  put_long = let many = ys_many in grind (arith, places)

  pub put_before : (k : ℕ) → k < at → slice_index (put_mid at n xs ys) k ≡ slice_index xs k
  put_before k lt = grind (arith, places)

  pub put_within : (k : ℕ) → at ≤ k → k < at + n → slice_index (put_mid at n xs ys) k ≡ 0
  put_within k ge lt = let many = ys_many in subst (λ (l : List ℕ). slice_index (put_mid at n xs l) k ≡ 0) (sym ys_zero) (grind (arith, places))

  pub put_after : (k : ℕ) → at + n ≤ k → slice_index (put_mid at n xs ys) k ≡ slice_index xs k
  put_after k ge = let many = ys_many in grind (arith, places)

-- the next word was set to 0, or was 0
module _ (xs : List ℕ) (i : ℕ) (lt : i < length xs) (emptied : (k : ℕ) → k < i → slice_index xs k ≡ 0) where
  pub emptied_on : slice_index xs i ≡ 0 → (k : ℕ) → k < i + 1 → slice_index xs k ≡ 0
  emptied_on e k below = elim (cases_lt k i) [ inl l ↦ emptied k l | inr ge ↦ ap (slice_index xs) (let r : k ≡ i = omega arith in r) ∙ e ]

  pub emptied_set : (k : ℕ) → k < i + 1 → slice_index (set xs i 0) k ≡ 0
  emptied_set k below = elim (cases_lt k i) [
    | inl l ↦ get_or-set_other xs i k 0 0 (λ e. omega arith) ∙ emptied k l
    | inr ge ↦ ap (slice_index (set xs i 0)) (let r : k ≡ i = omega arith in r) ∙ get_or-set_same xs i 0 0 lt
  ]

  pub left_set : (k : ℕ) → i + 1 ≤ k → slice_index (set xs i 0) k ≡ slice_index xs k
  left_set k ge = get_or-set_other xs i k 0 0 (λ e. omega arith)
