-- Sets of bytes, each as the list of its bytes, which ascends.
use Rattle.std.specs.Prelude.{ℕ, zero, suc, ◌/◌, ◌%◌, Bool, false, ◌||◌, ◌&&◌, ◌==◌, nat_le, not, List, [], ◌∷◌, filter, slice_index}
use Rattle.std.specs.Int.{bit_at}

-- so many numbers, from the first on
abbrev pub numbers_from : (first many : ℕ) → List ℕ
numbers_from n zero = []
numbers_from n (suc k) = n ∷ numbers_from (suc n) k

-- the bytes that pass the test
unfoldable pub bytes_where : (ℕ → Bool) → List ℕ
bytes_where test = filter test (numbers_from 0 256)

-- whether the byte is in the set
abbrev pub has : List ℕ → ℕ → Bool
has [] b = false
has (x ∷ xs) b = x == b || has xs b

-- whether the bit of this number is set, in words of 64 bits
unfoldable pub bit_of : List ℕ → ℕ → Bool
bit_of words b = bit_at (slice_index words (b / 64)) (b % 64) == 1

-- the set with one byte
abbrev pub only : ℕ → List ℕ
only byte = bytes_where (λ b. b == byte)

-- the set with the bytes from low to high besides
abbrev pub with_range : List ℕ → ℕ → ℕ → List ℕ
with_range set low high = bytes_where (λ b. has set b || (nat_le low b && nat_le b high))

-- the bytes that the set has not
abbrev pub complement : List ℕ → List ℕ
complement set = bytes_where (λ b. not (has set b))
