-- The least and the greatest of some numbers.
use Rattle.std.specs.Prelude.{ℕ, ◌<◌}

-- n is the least number with the property
pub record IsLeast (P : ℕ → Type 0) (n : ℕ) : Type 0 where
  pub is : P n
  pub least : (k : ℕ) → k < n → P k → ⊥

-- n is the greatest number with the property
pub record IsGreatest (P : ℕ → Type 0) (n : ℕ) : Type 0 where
  pub is : P n
  pub greatest : (k : ℕ) → n < k → P k → ⊥

-- no number has the property
abbrev pub HasNone : (ℕ → Type 0) → Type 0
HasNone P = (k : ℕ) → P k → ⊥
