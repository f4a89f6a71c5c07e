use Rattle.std.proofs.Common.{◌≢◌, ◌≤◌, ℕ, zero, suc, inl, refl, ◌∙◌, arith}
use Rattle.pin_rule.specs.Hands.{view_of}
use Rattle.pin_rule.proofs.KindPin.{keeps_pin}
use Rattle.slot_store.proofs.pass.Pass.pin.Goals as goal

positive : (n : ℕ) → n ≢ 0 → 1 ≤ n
positive zero h = absurd (h refl)
positive (suc n) h = omega arith

pub pin-current-requires-clause-keeps : goal.pin-current-requires-clause-keeps
pin-current-requires-clause-keeps g c = let p = c.args.self in let some : p.left ≢ 0 = c.if-self-eq0.false in let e = p.counted in
    let left : 1 ≤ (view_of p.hand).pins_left = positive (view_of p.hand).pins_left (λ z. some (e ∙ z)) in
    keeps_pin g.C.Content.lawful g.C.Content.fits (view_of p.hand) p.shared p.unpinned left

pub returns-clause-lawful : goal.returns-clause-lawful
returns-clause-lawful g c = let b = c.catch_up.ensures.caught_up.behind in (c.catch_up.ensures.told (inl (_, b.pinned, b.at))).0
