use Rattle.std.proofs.Common.{ℕ, List, refl, sym, subst}
use Rattle.pin_rule.specs.Hands.{view_of, table_of}
use Rattle.slot_store.specs.declared.site.Site.{Site}
use Rattle.slot_store.specs.declared.page.Look.TheVariants as look
use Rattle.slot_store.specs.Meaning.{meaning_of}
use Rattle.slot_store.specs.Answers.{IsFound, Finds}
use Rattle.slot_store.proofs.Extending.{finds}
use Rattle.slot_store.proofs.pinned_page.PinnedPage.find.Goals as goal

pub returns-in-PageFull : goal.returns-in-PageFull
returns-in-PageFull g c = let p = c.args.self.now.hand in let q = c.look.new.self in let k = c.in-PageFull.ensures.look in
    let v = view_of p.hand in let w = view_of q.hand in let same = c.in-PageFull.ensures.same in let F = g.C.Content.fits in
    let key = c.args.key.now in let t = table_of p.hand in (
      (
        refl,
        (λ _. tt),
        subst (λ (y : Site). Finds F (meaning_of v p.site.page t) (meaning_of w y.page (table_of q.hand)) key look.PageFull) (sym same.1)
            (finds p.site v w t (table_of q.hand) k.added k.moves k.own same.0 F key look.PageFull p.measured k.is),
      ),
      record { lent = tt; graph = tt; found = tt },
    )

pub returns-in-Initial : goal.returns-in-Initial
returns-in-Initial g c = let p = c.args.self.now.hand in let q = c.look.new.self in let k = c.in-Initial.ensures.look in
    let v = view_of p.hand in let w = view_of q.hand in let same = c.in-Initial.ensures.same in let F = g.C.Content.fits in
    let key = c.args.key.now in let t = table_of p.hand in (
      (
        refl,
        (λ _. tt),
        subst (λ (y : Site). Finds F (meaning_of v p.site.page t) (meaning_of w y.page (table_of q.hand)) key (look.Initial c.in-Initial.place)) (sym same.1)
            (finds p.site v w t (table_of q.hand) k.added k.moves k.own same.0 F key (look.Initial c.in-Initial.place) p.measured k.is),
      ),
      record { lent = tt; graph = tt; found = tt },
    )

pub returns-in-Found : goal.returns-in-Found
returns-in-Found g c = let p = c.args.self.now.hand in let q = c.look.new.self in let k = c.in-Found.ensures.look in
    let v = view_of p.hand in let w = view_of q.hand in let same = c.in-Found.ensures.same in let F = g.C.Content.fits in
    let key = c.args.key.now in let t = table_of p.hand in let answer = look.Found c.payload.result in
    let found = subst (λ (l : List ℕ). IsFound p.site.sizes p.site.page k.added (F v.log) key l) (sym c.payload.ensures) k.is.1 in (
      (
        refl,
        (λ _. tt),
        subst (λ (y : Site). Finds F (meaning_of v p.site.page t) (meaning_of w y.page (table_of q.hand)) key (look.Found c.payload.result)) (sym same.1)
            (finds p.site v w t (table_of q.hand) k.added k.moves k.own same.0 F key (look.Found c.payload.result) p.measured found),
      ),
      record { lent = found.fitting; graph = tt; found = tt },
    )
