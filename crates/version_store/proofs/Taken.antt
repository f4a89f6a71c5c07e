-- How many places are taken, and that one is empty where not all are.
use Rattle.std.proofs.Common.{◌≡◌, ◌≢◌, ℕ, zero, suc, ◌<◌, ◌≤◌, List, [], ◌∷◌, length, slice_index, set, refl, ap, arith}
use Rattle.std.specs.Prelude.{replicate}
use Rattle.version_store.specs.Choices.{count_taken}

pub all_taken : (ns : List ℕ) → ((i : ℕ) → i < length ns → slice_index ns i ≢ 0) → count_taken ns ≡ length ns
all_taken [] h = refl
all_taken (zero ∷ ns) h = absurd (h 0 (omega arith) refl)
all_taken (suc n ∷ ns) h = ap suc (all_taken ns (λ i lt. h (suc i) (omega arith)))

-- one place more is taken at most
pub one_more : (ns : List ℕ) (i n : ℕ) → count_taken (set ns i n) ≤ suc (count_taken ns)
one_more [] i n = omega arith
one_more (zero ∷ ns) zero zero = omega arith
one_more (zero ∷ ns) zero (suc n) = omega arith
one_more (suc m ∷ ns) zero zero = omega arith
one_more (suc m ∷ ns) zero (suc n) = omega arith
one_more (zero ∷ ns) (suc i) n = one_more ns i n
one_more (suc m ∷ ns) (suc i) n = let h = one_more ns i n in omega arith

pub none_taken : (n : ℕ) → count_taken (replicate n 0) ≡ 0
none_taken zero = refl
none_taken (suc n) = none_taken n
