-- The path of a key goes through each place of the page once.
use Rattle.std.proofs.Common.{◌≡◌, ℕ, zero, suc, ◌+◌, ◌-◌, ◌<◌, ◌%◌, ◌/◌, ◌^◌, List, inl, inr, ap, ◌∙◌, arith}
use Rattle.std.proofs.lemmas.Bool.{cases_lt}
use Rattle.std.proofs.Math.Nat.{suc-mod, mod_self, mod-eq_of_lt}
use Rattle.pin_rule.specs.declared.sizes.Sizes.{Sizes}
use Rattle.pin_rule.specs.Rows.{on_path, hashed}

module _ (z : Sizes) (key : List ℕ) (some : 0 < z.places) where
  pub on_page : (step : ℕ) → on_path z key step < z.places
  unfolding on_path
  on_page step = let x : ℕ = hashed 0 key / 2 ^ 32 + step in let n : ℕ = z.places in let r : x % n < n = omega arith in r

  pub path_start : on_path z key 0 ≡ (hashed 0 key / 2 ^ 32) % z.places
  unfolding on_path
  path_start = ap (λ (n : ℕ). n % z.places) (let x : ℕ = hashed 0 key / 2 ^ 32 in let r : x + 0 ≡ x = omega arith in r)

  turn : (step : ℕ) → on_path z key (step + 1) ≡ suc (on_path z key step) % z.places
  unfolding on_path
  turn step = let x : ℕ = hashed 0 key / 2 ^ 32 in ap (λ (n : ℕ). n % z.places) (let r : x + (step + 1) ≡ suc (x + step) = omega arith in r) ∙ suc-mod
      (x + step) z.places

  -- the path goes on by one, and from the last place to the first
  pub path_on : (step : ℕ) → suc (on_path z key step) < z.places → on_path z key (step + 1) ≡ suc (on_path z key step)
  path_on step h = turn step ∙ mod-eq_of_lt h

  pub path_round : (step : ℕ) → suc (on_path z key step) ≡ z.places → on_path z key (step + 1) ≡ 0
  path_round step h = turn step ∙ ap (λ (n : ℕ). n % z.places) h ∙ mod_self z.places

  up_to_end : (d : ℕ) → on_path z key 0 + d < z.places → on_path z key d ≡ on_path z key 0 + d
  up_to_end zero h = omega arith
  up_to_end (suc d) h = let start : ℕ = on_path z key 0 in let e : on_path z key d ≡ start + d = up_to_end d (omega arith) in
      ap (on_path z key) (let r : suc d ≡ d + 1 = omega arith in r) ∙ path_on d (omega arith) ∙ (let r : suc (on_path z key d) ≡ start + suc d =
      omega arith in r)

  from_first : (d e : ℕ) → on_path z key 0 + d ≡ z.places → e < z.places → on_path z key (d + e) ≡ e
  from_first zero e s h = let b = on_page 0 in absurd (omega arith)
  from_first (suc d) zero s h = let start : ℕ = on_path z key 0 in let last : on_path z key d ≡ start + d = up_to_end d (omega arith) in
      ap (on_path z key) (let r : suc d + 0 ≡ d + 1 = omega arith in r) ∙ path_round d (omega arith)
  from_first (suc d) (suc e) s h = let before : on_path z key (suc d + e) ≡ e = from_first (suc d) e s (omega arith) in
      ap (on_path z key) (let r : suc d + suc e ≡ suc d + e + 1 = omega arith in r) ∙ path_on (suc d + e) (omega arith) ∙ ap suc before

  pub path_reaches : (place : ℕ) → place < z.places → (step : ℕ) × (step < z.places) × (on_path z key step ≡ place)
  path_reaches place h = let start : ℕ = on_path z key 0 in let b = on_page 0 in elim (cases_lt place start) [
    | inl lt ↦ let d : ℕ = z.places - start in (d + place, omega arith, from_first d place (omega arith) h)
    | inr ge ↦ let d : ℕ = place - start in (d, omega arith, up_to_end d (omega arith) ∙ (let r : start + d ≡ place = omega arith in r))
  ]
