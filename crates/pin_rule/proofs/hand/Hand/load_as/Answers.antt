use Rattle.std.proofs.Common.{◌≡◌, ◌<◌, sym, ap, ◌∙◌, subst, arith}
use Rattle.pin_rule.specs.Layout.{word_count}
use Rattle.pin_rule.specs.Ops.{word_of, IsIn, does}
use Rattle.pin_rule.specs.Keeps.{Keeps}
use Rattle.pin_rule.proofs.Frames.{word_in}
use Rattle.pin_rule.proofs.Allowed.{reads}
use Rattle.pin_rule.proofs.hand.Hand.load_as.Goals as goal

pub load-requires : goal.load-requires
load-requires g c =
    let h = c.args.self.now in let t = c.value-table.result.now.shared in let e = c.value-table.ensures in let i = c.args.word in
    let r = c.requires in
    let same : h.seat.table_id ≡ t.table_id = h.seated ∙ sym (ap (λ x. x.shared.table_id) e) in
    let key : t.key ≡ h.seat.me.0.sizes = ap (λ x. x.shared.key) e ∙ h.keyed ∙ sym h.told in
    let at : i ≡ word_of h.seat.me.0.sizes c.args.op = r.word in
    let many : t.table_id.words ≡ word_count h.starts.sizes = ap (λ x. x.shared.table_id.words) e ∙ h.wide in
    let inside : i < word_count h.starts.sizes = subst (λ z. i < word_count z) h.told
    (subst (λ j. j < word_count h.seat.me.0.sizes) (sym at) (word_in h.seat.me.0.sizes c.args.op r.inside)) in (
      same,
      (let b : i < t.table_id.words = omega arith in b),
      reads g.C.Content.lawful g.C.Content.fits t.key t.table_id.slots h.seat.id h.seat.me i (λ n. n) g.G.Doing.op key
          (at ∙ ap (word_of h.seat.me.0.sizes) (sym r.op)) (λ n. ap (λ o. does o n) r.op ∙ r.does n)
          (subst (λ o. Keeps g.C.Content.lawful g.C.Content.fits h.seat.me.0 o) (sym r.op) r.keeps) r.share
          (subst (IsIn h.seat.me.0.sizes) (sym r.op) r.inside),
    )
