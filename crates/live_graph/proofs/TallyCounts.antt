-- How counts grow with what is counted.
use Rattle.std.proofs.Common.{◌≡◌, ℕ, ◌+◌, List, [], ◌∷◌, ◌++◌, take, slice_get, Some, option_map, get_or, sym, ap, ◌∙◌, arith, inl, inr}
use Rattle.std.proofs.lemmas.List.{take_more}
use Rattle.std.proofs.lemmas.List.Sums.{fold-append}
use Rattle.std.proofs.lemmas.Option.{slice_get_cases, slice_get-map, same_Some}
use Rattle.live_graph.specs.declared.origin.Origin.{Origin}
use Rattle.live_graph.specs.declared.origin.Origin.TheVariants.{Found, Made, Raced, Alone}
use Rattle.live_graph.specs.declared.tally.Tally.{Tally}
use Rattle.live_graph.specs.declared.answer.Answer.{Answer}
use Rattle.live_graph.specs.Answers.{origins}
use Rattle.live_graph.specs.Tallying.{none_counted, counted, tally_of, AddsUp}

pub adds_up_on : (origin : Origin) (t : Tally) → AddsUp t → AddsUp (counted origin t)
adds_up_on Found t sum = omega (arith, sum)
adds_up_on Made t sum = omega (arith, sum)
adds_up_on Raced t sum = omega (arith, sum)
adds_up_on Alone t sum = omega (arith, sum)

pub reached_on : (origin : Origin) (t : Tally) → (counted origin t).reached ≡ t.reached + 1
reached_on Found t = omega arith
reached_on Made t = omega arith
reached_on Raced t = omega arith
reached_on Alone t = omega arith

module _ {Key : Type 0} where
  pub tally_push : (kept : List (Key × Origin)) (one : Key × Origin) → tally_of (kept ++ one ∷ []) ≡ counted one.1 (tally_of kept)
  tally_push kept one = fold-append (λ t (p : Key × Origin). counted p.1 t) none_counted kept (one ∷ [])

  pub tally_more : (kept : List (Key × Origin)) (place : ℕ) (one : Key × Origin) → slice_get kept place ≡ Some one
      → tally_of (take (place + 1) kept) ≡ counted one.1 (tally_of (take place kept))
  tally_more kept place one at = elim (slice_get_cases kept place).1 [
    | inl there ↦
        let is : there.0 ≡ one = same_Some there.0 one (sym there.2 ∙ at) in
        let read : take (place + 1) kept ≡ take place kept ++ get_or kept place there.0 ∷ [] = take_more kept place there.0 there.1 in
        ap tally_of (read ∙ ap (λ x. take place kept ++ x ∷ []) (there.3 ∙ is)) ∙ tally_push (take place kept) one
    | inr past ↦ absurd cc
  ]

-- how the expansion at a place came
pub origin_read : {K E : Type 0} (kept : List (K × Answer E)) (place : ℕ) (key : K) (answer : Answer E) → Some (key, answer) ≡ slice_get kept place
    → slice_get (origins kept) place ≡ Some (key, answer.origin)
origin_read {K = K} {E = E} kept place key answer is =
    slice_get-map (λ (one : K × Answer E). (one.0, one.1.origin)) kept place ∙ ap (option_map (λ (one : K × Answer E). (one.0, one.1.origin))) (sym is)
