-- What is in a set of bytes.
use Rattle.std.proofs.Common.{◌≡◌, ℕ, suc, zero, ◌+◌, ◌-◌, ◌*◌, ◌^◌, ◌<◌, ◌≤◌, ◌/◌, ◌%◌, max, Bool, true, false, ◌||◌, ◌&&◌, ◌==◌, not, nat_le, nat_lt, List}
use Rattle.std.proofs.Common.{[], ◌∷◌, filter, length, get_or, slice_index, refl, sym, ap, ◌∙◌, arith, bit_or, w64, inl, inr, subst, slice_set as set}
use Rattle.std.specs.Int.{bit_at}
use Rattle.std.proofs.lemmas.Bool.Decides.{nat_tests}
use Rattle.std.proofs.lemmas.Bool.{cases_lt, cases_eq, eq-eqb, ne_eqb, le-ltb, eqb-false, eqb-true, and_parts}
use Rattle.std.proofs.lemmas.List.{get_or-set_same, get_or-set_other}
use Rattle.std.proofs.lemmas.Nat.Bits.{same_from_bits_below, bit_at_or, bit_at_not, bit_at-lt, bit_at-zero, bit_at_set_same, bit_at_set_other}
use Rattle.regex_ast.specs.Bytes.{has, bytes_where, numbers_from, bit_of, with_range}

-- a number is among those from n on
pub has-numbers_from : (n k b : ℕ) → has (numbers_from n k) b ≡ (nat_le n b && nat_lt b (n + k))
has-numbers_from n zero b = grind (arith, nat_tests)
has-numbers_from n (suc k) b = let h = has-numbers_from (suc n) k b in grind (arith, nat_tests)

pub has-filter : (t : ℕ → Bool) (xs : List ℕ) (b : ℕ) → has (filter t xs) b ≡ (t b && has xs b)
has-filter t [] b = grind (arith, nat_tests)
has-filter t (x ∷ xs) b = let h = has-filter t xs b in grind (arith, nat_tests)

pub filter-same : (t u : ℕ → Bool) (n k : ℕ) → ((b : ℕ) → b < n + k → t b ≡ u b) → filter t (numbers_from n k) ≡ filter u (numbers_from n k)
filter-same t u n zero same = refl
filter-same t u n (suc k) same =
    let here : t n ≡ u n = same n (omega arith) in
    let rest : filter t (numbers_from (suc n) k) ≡ filter u (numbers_from (suc n) k) = filter-same t u (suc n) k (λ b h. same b (omega arith)) in
    rw (here, rest) refl

filter-none : (n k : ℕ) → filter (λ b. false) (numbers_from n k) ≡ []
filter-none n zero = refl
filter-none n (suc k) = filter-none (suc n) k

tidy : (a : Bool) (b n : ℕ) → (a && (nat_le 0 b && nat_lt b n)) ≡ (a && nat_lt b n)
tidy a b n = grind (arith, nat_tests)

has_below : (t : ℕ → Bool) (k b : ℕ) → has (filter t (numbers_from 0 k)) b ≡ (t b && nat_lt b (0 + k))
has_below t k b = has-filter t (numbers_from 0 k) b ∙ ap (λ r. t b && r) (has-numbers_from 0 k b) ∙ tidy (t b) b (0 + k)

pub has-bytes_where : (t : ℕ → Bool) (b : ℕ) → has (bytes_where t) b ≡ (t b && nat_lt b 256)
unfolding bytes_where
has-bytes_where t b = has_below t 256 b

-- two tests that agree on bytes give one set
pub bytes_where-same : (t u : ℕ → Bool) → ((b : ℕ) → b < 256 → t b ≡ u b) → bytes_where t ≡ bytes_where u
unfolding bytes_where
bytes_where-same t u same = filter-same t u 0 256 (λ b h. same b h)

pub bytes_where-none : bytes_where (λ b. false) ≡ []
unfolding bytes_where
bytes_where-none = filter-none 0 256

below_256 : (b : ℕ) → b < 256 → nat_lt b 256 ≡ true
below_256 b h = grind (arith, nat_tests)

and_true : (a : Bool) → (a && true) ≡ a
and_true true = refl
and_true false = refl

pub has_byte : (t : ℕ → Bool) (b : ℕ) → b < 256 → has (bytes_where t) b ≡ t b
has_byte t b h = has-bytes_where t b ∙ ap (λ r. t b && r) (below_256 b h) ∙ and_true (t b)

by_word : (P : ℕ → Type 0) → P 0 → P 1 → P 2 → P 3 → (i : ℕ) → i < 4 → P i
by_word P a b c d zero h = a
by_word P a b c d (suc zero) h = b
by_word P a b c d (suc (suc zero)) h = c
by_word P a b c d (suc (suc (suc zero))) h = d
by_word P a b c d (suc (suc (suc (suc i)))) h = absurd (omega arith)

-- what holds of each bit of each word holds of each byte
by_bit : (P : ℕ → ℕ → Type 0) → ((r : ℕ) → r < 64 → P 0 r) → ((r : ℕ) → r < 64 → P 1 r) → ((r : ℕ) → r < 64 → P 2 r) → ((r : ℕ) → r < 64 → P 3 r) → (b : ℕ)
    → b < 256 → P (b / 64) (b % 64)
by_bit P x y z w b h = by_word (λ i. (r : ℕ) → r < 64 → P i r) x y z w (b / 64) (omega arith) (b % 64) (omega arith)

no_bit : (r : ℕ) → (bit_at 0 r == 1) ≡ false
no_bit r = rw bit_at-zero refl

pub bits-zero : (b : ℕ) → b < 256 → bit_of (0 ∷ 0 ∷ 0 ∷ 0 ∷ []) b ≡ false
unfolding bit_of
bits-zero b h =
    by_bit (λ i r. (bit_at (slice_index (0 ∷ 0 ∷ 0 ∷ 0 ∷ []) i) r == 1) ≡ false) (λ r h. no_bit r) (λ r h. no_bit r) (λ r h. no_bit r) (λ r h. no_bit r) b h

or_bit : (v w r : ℕ) → (bit_at (bit_or v w) r == 1) ≡ ((bit_at v r == 1) || (bit_at w r == 1))
or_bit v w r =
    let e : bit_at (bit_or v w) r ≡ max (bit_at v r) (bit_at w r) = bit_at_or v w r in
    let x : bit_at v r < 2 = bit_at-lt v r in let y : bit_at w r < 2 = bit_at-lt w r in
    grind (arith, nat_tests)

pub bits-or : (v w : List ℕ) (b : ℕ) → b < 256
    → bit_of (bit_or (slice_index v 0) (slice_index w 0) ∷ bit_or (slice_index v 1) (slice_index w 1) ∷ bit_or (slice_index v 2) (slice_index w 2) ∷ bit_or
    (slice_index v 3) (slice_index w 3) ∷ []) b
    ≡ (bit_of v b || bit_of w b)
unfolding bit_of
bits-or v w b h =
    by_bit
    (λ i r. (bit_at (slice_index (bit_or (slice_index v 0) (slice_index w 0) ∷ bit_or (slice_index v 1) (slice_index w 1) ∷ bit_or (slice_index v 2)
    (slice_index w 2) ∷ bit_or (slice_index v 3) (slice_index w 3) ∷ []) i) r == 1)
    ≡ ((bit_at (slice_index v i) r == 1) || (bit_at (slice_index w i) r == 1)))
    (λ r h. or_bit (slice_index v 0) (slice_index w 0) r) (λ r h. or_bit (slice_index v 1) (slice_index w 1) r)
    (λ r h. or_bit (slice_index v 2) (slice_index w 2) r) (λ r h. or_bit (slice_index v 3) (slice_index w 3) r) b h

not_bit : (v r : ℕ) → v < 2 ^ 64 → r < 64 → (bit_at (18446744073709551615 - v) r == 1) ≡ not (bit_at v r == 1)
not_bit v r small h =
    let e : bit_at (18446744073709551615 - v) r ≡ 1 - bit_at v r = bit_at_not w64 v r small h in
    let x : bit_at v r < 2 = bit_at-lt v r in
    grind (arith, nat_tests)

pub bits-not : (v : List ℕ) → ((i : ℕ) → i < 4 → slice_index v i < 2 ^ 64) → (b : ℕ) → b < 256
    → bit_of ((18446744073709551615 - slice_index v 0) ∷ (18446744073709551615 - slice_index v 1) ∷ (18446744073709551615 - slice_index v 2) ∷
    (18446744073709551615 - slice_index v 3) ∷ []) b
    ≡ not (bit_of v b)
unfolding bit_of
bits-not v small b h =
    by_bit
    (λ i r. (bit_at (slice_index ((18446744073709551615 - slice_index v 0) ∷ (18446744073709551615 - slice_index v 1) ∷
    (18446744073709551615 - slice_index v 2) ∷ (18446744073709551615 - slice_index v 3) ∷ []) i) r == 1)
    ≡ not (bit_at (slice_index v i) r == 1))
    (λ r h. not_bit (slice_index v 0) r (small 0 (omega arith)) h) (λ r h. not_bit (slice_index v 1) r (small 1 (omega arith)) h)
    (λ r h. not_bit (slice_index v 2) r (small 2 (omega arith)) h) (λ r h. not_bit (slice_index v 3) r (small 3 (omega arith)) h) b h

and_false : (a : Bool) → (a && false) ≡ false
and_false true = refl
and_false false = refl

has_above : (t : ℕ → Bool) (b : ℕ) → 256 ≤ b → has (bytes_where t) b ≡ false
has_above t b h = has-bytes_where t b ∙ ap (λ r. t b && r) (le-ltb b 256 h) ∙ and_false (t b)

ap2 : {A B C : Type 0} (f : A → B → C) {a a' : A} {b b' : B} → a ≡ a' → b ≡ b' → f a b ≡ f a' b'
ap2 f {a} {a'} {b} {b'} p q = ap (λ x. f x b) p ∙ ap (λ y. f a' y) q

or_true : (a b : Bool) → b ≡ true → (a || b) ≡ true
or_true true b e = refl
or_true false b e = e

or_false : (a b : Bool) → b ≡ false → (a || b) ≡ a
or_false true b e = refl
or_false false b e = e

one_of_two : (n : ℕ) → n < 2 → (n == 1) ≡ false → n ≡ 0
one_of_two zero h e = refl
one_of_two (suc n) h e = absurd (eqb-false (suc n) 1 e (omega arith))

-- a union
pub has-or : (t u v : ℕ → Bool) → ((b : ℕ) → b < 256 → t b ≡ (u b || v b)) → (b : ℕ) → has (bytes_where t) b ≡ (has (bytes_where u) b || has (bytes_where v) b)
has-or t u v same b =
    elim (cases_lt b 256) [
      | inl h ↦ has_byte t b h ∙ same b h ∙ sym (ap2 (λ x y. x || y) (has_byte u b h) (has_byte v b h))
      | inr h ↦ has_above t b h ∙ sym (ap2 (λ x y. x || y) (has_above u b h) (has_above v b h))
    ]

-- a bit that is set
set_here : (v : List ℕ) (i r : ℕ) → i < length v → r < 64 → (s : ℕ)
    → (bit_at (get_or (set v i (bit_or (get_or v i 0) (1 * 2 ^ r % 2 ^ 64))) i 0) s == 1) ≡ ((bit_at (get_or v i 0) s == 1) || (s == r))
set_here v i r within h s =
    rw get_or-set_same
    (elim (cases_eq s r) [
      | inl e ↦ subst (λ k. (bit_at (bit_or (get_or v i 0) (1 * 2 ^ r % 2 ^ 64)) k == 1) ≡ ((bit_at (get_or v i 0) k == 1) || (k == r))) (sym e)
          (ap (λ k. k == 1) (bit_at_set_same w64 (get_or v i 0) r h) ∙ sym (or_true _ _ (eq-eqb r r refl)))
      | inr n ↦ ap (λ k. k == 1) (bit_at_set_other w64 (get_or v i 0) r h s n) ∙ sym (or_false _ _ (ne_eqb s r n))
    ])

one_byte : (b c : ℕ) → (nat_le b c && nat_le c b) ≡ (c == b)
one_byte b c = grind (arith, nat_tests)

same_place : (b c : ℕ) → b / 64 ≡ c / 64 → (c % 64 == b % 64) ≡ (c == b)
same_place b c e = grind (arith, nat_tests)

pub bits-insert : (v : List ℕ) (b c : ℕ) → length v ≡ 4 → b < 256
    → bit_of (set v (b / 64) (bit_or (get_or v (b / 64) 0) (1 * 2 ^ (b % 64) % 2 ^ 64))) c ≡ (bit_of v c || (nat_le b c && nat_le c b))
unfolding bit_of
bits-insert v b c long small =
    let within : b / 64 < length v = omega arith in
    elim (cases_eq (c / 64) (b / 64)) [
      | inl e ↦
          subst (λ i. (bit_at (get_or (set v (b / 64) (bit_or (get_or v (b / 64) 0) (1 * 2 ^ (b % 64) % 2 ^ 64))) i 0) (c % 64) == 1)
          ≡ ((bit_at (get_or v i 0) (c % 64) == 1) || (nat_le b c && nat_le c b))) (sym e)
          (set_here v (b / 64) (b % 64) within (omega arith) (c % 64) ∙ ap (λ k. (bit_at (get_or v (b / 64) 0) (c % 64) == 1) || k) (same_place b c (sym e)
          ∙ sym (one_byte b c)))
      | inr n ↦
          ap (λ w. bit_at w (c % 64) == 1) (get_or-set_other v (b / 64) (c / 64) _ 0 n)
          ∙ sym (or_false _ _ (one_byte b c ∙ ne_eqb c b (λ e. n (ap (λ k. k / 64) e))))
    ]

-- a word with no bit
no_bits : (w : ℕ) → w < 2 ^ 64 → ((r : ℕ) → r < 64 → (bit_at w r == 1) ≡ false) → w ≡ 0
no_bits w small none = same_from_bits_below 64 w 0 small (omega arith) (λ i h. one_of_two (bit_at w i) (bit_at-lt w i) (none i h) ∙ sym (bit_at-zero i))

-- the bit of a byte in a word
bit_in : (v : List ℕ) (i r : ℕ) → r < 64 → bit_of v (i * 64 + r) ≡ (bit_at (slice_index v i) r == 1)
unfolding bit_of
bit_in v i r h =
    let q : (i * 64 + r) / 64 ≡ i = omega arith in let m : (i * 64 + r) % 64 ≡ r = omega arith in
    rw (q, m) refl

-- the bytes of a word
pub has_in_word : (v : List ℕ) (i r : ℕ) → i < 4 → r < 64 → has (bytes_where (bit_of v)) (64 * i + r) ≡ (bit_at (slice_index v i) r == 1)
has_in_word v i r within h =
    let same : 64 * i + r ≡ i * 64 + r = omega arith in
    ap (has (bytes_where (bit_of v))) same ∙ has_byte (bit_of v) (i * 64 + r) (omega arith) ∙ bit_in v i r h

pub words-zero : (v : List ℕ) → length v ≡ 4 → ((i : ℕ) → i < 4 → slice_index v i < 2 ^ 64) → bytes_where (bit_of v) ≡ [] → (i : ℕ) → i < 4
    → slice_index v i ≡ 0
words-zero v long small empty k h =
    no_bits (slice_index v k) (small k h) (λ r l.
    sym (bit_in v k r l) ∙ sym (has_byte (bit_of v) (k * 64 + r) (omega arith)) ∙ ap (λ s. has s (k * 64 + r)) empty)

pub small_words : (v : List ℕ) → slice_index v 0 < 2 ^ 64 → slice_index v 1 < 2 ^ 64 → slice_index v 2 < 2 ^ 64 → slice_index v 3 < 2 ^ 64 → (i : ℕ) → i < 4
    → slice_index v i < 2 ^ 64
small_words v a b c d = by_word (λ i. slice_index v i < 2 ^ 64) a b c d

-- the bits of words that are 0
pub bits-none : (v : List ℕ) → slice_index v 0 ≡ 0 → slice_index v 1 ≡ 0 → slice_index v 2 ≡ 0 → slice_index v 3 ≡ 0 → (b : ℕ) → b < 256 → bit_of v b ≡ false
unfolding bit_of
bits-none v a b c d =
    by_bit (λ i r. (bit_at (slice_index v i) r == 1) ≡ false)
    (λ r h. ap (λ w. bit_at w r == 1) a ∙ no_bit r) (λ r h. ap (λ w. bit_at w r == 1) b ∙ no_bit r)
    (λ r h. ap (λ w. bit_at w r == 1) c ∙ no_bit r) (λ r h. ap (λ w. bit_at w r == 1) d ∙ no_bit r)

pub all_zero : (a b c d : ℕ) → ((a == 0) && ((b == 0) && ((c == 0) && ((d == 0) && true)))) ≡ true → (a ≡ 0) × (b ≡ 0) × (c ≡ 0) × (d ≡ 0)
all_zero a b c d h =
    let p = and_parts (a == 0) ((b == 0) && ((c == 0) && ((d == 0) && true))) h in
    let q = and_parts (b == 0) ((c == 0) && ((d == 0) && true)) p.1 in
    let r = and_parts (c == 0) ((d == 0) && true) q.1 in
    (eqb-true a 0 p.0, eqb-true b 0 q.0, eqb-true c 0 r.0, eqb-true d 0 (and_parts (d == 0) true r.1).0)

pub zero_all : (a b c d : ℕ) → a ≡ 0 → b ≡ 0 → c ≡ 0 → d ≡ 0 → ((a == 0) && ((b == 0) && ((c == 0) && ((d == 0) && true)))) ≡ true
zero_all a b c d p q r s = rw (p, q, r, s) refl

below_next : (s : Bool) (low b n : ℕ) → low ≤ n → (s || (nat_le low b && nat_lt b (n + 1))) ≡
    ((s || (nat_le low b && nat_lt b n)) || (nat_le n b && nat_le b n))
below_next s low b n h = grind (arith, nat_tests)

none_yet : (s : Bool) (low b : ℕ) → s ≡ (s || (nat_le low b && nat_lt b low))
none_yet s low b = grind (arith, nat_tests)

no_range : (s : Bool) (low b high : ℕ) → high < low → (s || (nat_le low b && nat_lt b low)) ≡ (s || (nat_le low b && nat_le b high))
no_range s low b high = grind (arith, nat_tests)

-- the words after one more bit is set
pub bits-more : (v w : List ℕ) (low n : ℕ) → length w ≡ 4 → n < 256 → low ≤ n
    → ((b : ℕ) → bit_of w b ≡ (bit_of v b || (nat_le low b && nat_lt b n)))
    → (b : ℕ) → bit_of (set w (n / 64) (bit_or (get_or w (n / 64) 0) (1 * 2 ^ (n % 64) % 2 ^ 64))) b ≡ (bit_of v b || (nat_le low b && nat_lt b (n + 1)))
bits-more v w low n long small above so_far b =
    bits-insert w n b long small ∙ ap (λ k. k || (nat_le n b && nat_le b n)) (so_far b) ∙ sym (below_next (bit_of v b) low b n above)

-- a set whose words have the bits from low to high besides
pub set_with_range : (v w set : List ℕ) (low high n : ℕ) → bytes_where (bit_of v) ≡ set
    → ((b : ℕ) → bit_of w b ≡ (bit_of v b || (nat_le low b && nat_lt b n)))
    → ((s : Bool) (b : ℕ) → (s || (nat_le low b && nat_lt b n)) ≡ (s || (nat_le low b && nat_le b high)))
    → bytes_where (bit_of w) ≡ with_range set low high
set_with_range v w set low high n is bits all =
    bytes_where-same _ _ (λ b h.
    bits b ∙ ap (λ k. k || (nat_le low b && nat_lt b n)) (sym (has_byte (bit_of v) b h) ∙ ap (λ s. has s b) is) ∙ all (has set b) b)

pub no_more : (low high : ℕ) → high < low → (s : Bool) (b : ℕ) → (s || (nat_le low b && nat_lt b low)) ≡ (s || (nat_le low b && nat_le b high))
no_more low high h s b = no_range s low b high h

pub all_of_them : (low high : ℕ) (s : Bool) (b : ℕ) → (s || (nat_le low b && nat_lt b (high + 1))) ≡ (s || (nat_le low b && nat_le b high))
all_of_them low high s b = grind (arith, nat_tests)
