-- The key's words are mixed one after the other.
use Rattle.std.proofs.Common.{◌≡◌, ◌<◌, ◌≤◌, ℕ, suc, ◌+◌, ◌*◌, ◌%◌, ◌^◌, List, ◌∷◌, drop, get_or, length, ap, ◌∙◌, arith, drop-cons}
use Rattle.std.proofs.Math.ListN.{drop_of_length-le}
use lib.Bits.{bit_xor}
use Rattle.pin_rule.specs.Rows.{hashed}

pub mixes : (h i : ℕ) (key : List ℕ) → i < length key → hashed h (drop i key) ≡ hashed ((bit_xor h (get_or key i 0) * 0x9E3779B97F4A7C15) % 2 ^ 64)
    (drop (i + 1) key)
mixes h i key lt = ap (hashed h) (drop-cons key i 0 lt ∙ ap (λ (n : ℕ). get_or key i 0 ∷ drop n key) (let r : suc i ≡ i + 1 = omega arith in r))

pub mixed_all : (h i : ℕ) (key : List ℕ) → length key ≤ i → hashed h (drop i key) ≡ h
mixed_all h i key ge = ap (hashed h) (drop_of_length-le key ge)
