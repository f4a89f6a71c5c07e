-- Word 0 put together and taken apart.
use Rattle.std.proofs.Common.{◌≡◌, ℕ, ◌+◌, ◌*◌, ◌/◌, ◌%◌, ◌^◌, ◌<◌, ap, ◌∙◌, arith}
use Rattle.std.proofs.Math.Nat.{mod-eq_of_lt}
use Rattle.pin_rule.specs.Layout.{naming, version_named, page_named, taken_named}
use Rattle.pin_rule.specs.Ops.{one_more}

high : (n taken : ℕ) → taken < 4294967296 → (4294967296 * n + taken) / 4294967296 ≡ n
high n taken h = omega arith

low : (n taken : ℕ) → taken < 4294967296 → (4294967296 * n + taken) % 4294967296 ≡ taken
low n taken h = omega arith

pub taken_is : (version page taken : ℕ) → taken < 4294967296 → taken_named (naming version page + taken) ≡ taken
taken_is version page taken t = low (16 * version + page) taken t

pub version_is : (version page taken : ℕ) → page < 16 → taken < 4294967296 → version_named (2 ^ 32 * (16 * version + page) + taken) ≡ version
version_is version page taken p t = ap (λ (n : ℕ). n / 16) (high (16 * version + page) taken t) ∙ (let r : (16 * version + page) / 16 ≡ version =
    omega arith in r)

pub page_is : (version page taken : ℕ) → page < 16 → taken < 4294967296 → page_named (2 ^ 32 * (16 * version + page) + taken) ≡ page
page_is version page taken p t = ap (λ (n : ℕ). n % 16) (high (16 * version + page) taken t) ∙ (let r : (16 * version + page) % 16 ≡ page = omega arith in r)

pub no_carry : (n : ℕ) → n + 1 < 18446744073709551616 → one_more n ≡ n + 1
no_carry n h = mod-eq_of_lt h

pub room_above : (version page taken : ℕ) → version < 65536 → page < 16 → taken < 4294967295 → 2 ^ 32 * (16 * version + page) + taken + 1 < 18446744073709551616
room_above version page taken v p t = omega arith
