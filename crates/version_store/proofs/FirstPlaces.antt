-- The walk to the first empty place of a path.
use Rattle.std.proofs.Common.{◌≡◌, ◌≢◌, ℕ, ◌<◌, ◌≤◌, List, length, set, slice_index, sym, ap, ◌∙◌, arith}
use Rattle.pin_rule.specs.declared.sizes.Sizes.{Sizes}
use Rattle.pin_rule.specs.Rows.{on_path}
use Rattle.pin_rule.proofs.Paths.{on_page, path_reaches}
use Rattle.version_store.specs.Choices.{count_taken, PutsAtFirst}
use Rattle.version_store.proofs.Taken.{all_taken}

module _ (z : Sizes) (key places : List ℕ) (room : length places ≡ z.places) where
  some : 0 < z.places
  some = let p = z.places_in in omega arith

  pub path_inside : (step place : ℕ) → place ≡ on_path z key step → place < length places
  path_inside step place at = let b = on_page z key some step in omega arith

  -- a walk of all places would have met each of them taken
  pub not_all : count_taken places < z.places → (steps : ℕ) → z.places ≤ steps
      → ((before : ℕ) → before < steps → slice_index places (on_path z key before) ≢ 0) → ⊥
  not_all few steps all passed = let full = all_taken places (λ i lt e. let r = path_reaches z key some i (omega arith) in
      passed r.0 (let lt' = r.1 in omega arith) (ap (slice_index places) r.2 ∙ e)) in omega arith

  pub puts : (word step place : ℕ) → place ≡ on_path z key step → step < z.places
      → ((before : ℕ) → before < step → slice_index places (on_path z key before) ≢ 0) → slice_index places place ≡ 0 → (new : List ℕ)
      → new ≡ set places place word → PutsAtFirst z key word places new
  puts word step place at lt passed empty new is = (
    place,
    (let b = path_inside step place at in omega arith),
    empty,
    is,
    (step, lt, sym at, passed),
  )
