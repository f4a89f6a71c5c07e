use Rattle.std.proofs.Common.{◌≡◌, ℕ, ap, ◌∙◌, arith}
use Rattle.pin_rule.specs.declared.view.View.{View}
use Rattle.pin_rule.specs.Hands.{view_of}
use Rattle.pin_rule.specs.Steps.{after_split, split_off}
use Rattle.pin_rule.proofs.Parting.{keeps_split, keeps_join}
use Rattle.pin_rule.proofs.tests.two_threads_hold_a_hand_each.Goals as goal

half : (n : ℕ) → n ≡ 2147483648 → n ≡ 0 → ⊥
half n a b = omega arith

pub split-theirs-requires-clause-keeps : goal.split-theirs-requires-clause-keeps
split-theirs-requires-clause-keeps g c = keeps_split _ _ _ 0 (omega arith)

pub join-requires-clause-keeps : goal.join-requires-clause-keeps
join-requires-clause-keeps g c =
    let mine = c.join-mine.ensures.first.1 ∙ c.split-theirs.ensures.left ∙ ap (λ (v : View). after_split v 0) c.in_ok-mine.ensures in
    let theirs = c.join-mine.ensures.second.1 ∙ c.split-theirs.ensures.new ∙ ap (λ (v : View). split_off v 0) c.in_ok-mine.ensures in
    keeps_join _ _ _ _ (half (view_of c.join-mine.result.0).share (ap (λ (v : View). v.share) mine)) (ap (λ (v : View). v.own) theirs)
    (ap (λ (v : View). v.pinned) theirs) (ap (λ (v : View). v.role) theirs)
