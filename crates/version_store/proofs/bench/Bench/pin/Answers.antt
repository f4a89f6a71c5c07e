use Rattle.std.proofs.Common.{◌≡◌, ◌≢◌, ◌≤◌, ℕ, zero, suc, refl, sym, ap, ◌∙◌, arith}
use Rattle.pin_rule.specs.Hands.{view_of}
use Rattle.pin_rule.proofs.KindPin.{keeps_pin}
use Rattle.version_store.specs.declared.editor.Editor.{Editor}
use Rattle.version_store.proofs.bench.Bench.pin.Goals as goal

positive : (n : ℕ) → n ≢ 0 → 1 ≤ n
positive zero h = absurd (h refl)
positive (suc n) h = omega arith

pub pin-met-requires-clause-keeps : goal.pin-met-requires-clause-keeps
pin-met-requires-clause-keeps g c = let e = c.into_editor-hand.result in let some : c.args.self.editor.left ≢ 0 = c.if-self-eq0.false in
    let same : e.left ≡ c.args.self.editor.left = ap (λ (x : Editor _). x.left) c.into_editor-hand.ensures in let counted = e.counted in
    keeps_pin g.C.Content.lawful g.C.Content.fits (view_of e.hand) e.shared e.unpinned
    (positive (view_of e.hand).pins_left (λ z. some (sym same ∙ counted ∙ z)))
