use Rattle.std.proofs.Common.{◌≡◌, ℕ, length, replicate, sym, ap, ◌∙◌, subst}
use Rattle.std.specs.Prelude.{Option, Some}
use Rattle.pin_rule.specs.declared.sizes.Sizes.{Sizes}
use Rattle.pin_rule.specs.declared.view.Role.{Role}
use Rattle.slot_store.specs.declared.site.Site.{Site}
use Rattle.slot_store.specs.GraphAnswers.{WhereTold, PutTells}
use Rattle.slot_store.specs.Meaning.{Meaning}
use Rattle.slot_store.specs.PinnedHands.{view_in, site_in}
use Rattle.version_store.specs.Roles.{role_or_first}
use Rattle.version_store.specs.Notes.{IsNotedIn}
use Rattle.version_store.specs.Graphs.{rows_known, IsWholeKnown}
use Rattle.version_store.proofs.KnownAgain.{known_again}
use Rattle.version_store.proofs.LoneAnswers.{after_put, tells_put}
use Rattle.version_store.proofs.LoneHands.{sole}
use Rattle.version_store.proofs.lone_page.LonePage.publish.Goals as goal

pub invariant_of-self : goal.invariant_of-self
invariant_of-self g c = let p = c.args.self.now in let h = p.hand in let q = c.publish.new.self in let z = site_in h in let v = view_in h in let w = view_in
    q in
    let known = known_again z.sizes v.known p.all_known in
    let alone = sole z v h.measured p.has_all p.editor p.one_version p.at_version p.at_page known in
    let e = c.publish.ensures in let same = e.same in let role = e.role in let sizes = sym (ap (λ (y : Site). y.sizes) same.1) in
    let whole_known = after_put z.sizes v.known w.known known c.args.key.now c.args.payload.now c.publish.result (e.knows alone) in
    record {
      has_all = ap (λ (m : Meaning). m.share) e.put.1 ∙ p.has_all;
      editor = subst (λ (o : Option Role). o ≡ Some (role_or_first o)) (sym role) p.editor;
      one_version = ap (λ (o : Option Role). (role_or_first o).older) role ∙ p.one_version;
      idle = ap (λ (o : Option Role). (role_or_first o).making) role ∙ p.idle;
      keeps_all = ap (λ (o : Option Role). (role_or_first o).giving_up) role ∙ p.keeps_all;
      noted = subst (λ (o : Option Role). IsNotedIn (role_or_first o) p.lives) (sym role) p.noted;
      lives_measured = p.lives_measured ∙ sizes;
      at_version = ap (λ (o : Option Role). (role_or_first o).newest.version) role ∙ p.at_version ∙ sym (ap (λ (y : Site). y.version) same.1);
      at_page = ap (λ (o : Option Role). (role_or_first o).newest.page) role ∙ p.at_page ∙ sym (ap (λ (y : Site). y.page) same.1);
      row_room = ap (λ b. length b.items) e.buffer ∙ p.row_room ∙ ap (λ (y : Sizes). y.width) sizes;
      places_empty = p.places_empty ∙ ap (λ (y : Sizes). replicate y.places (let z : ℕ = 0 in z)) sizes;
      all_known = ∣ subst (λ (y : Sizes). IsWholeKnown y w.known) sizes whole_known ∣₁;
    }

pub returns-clause-graph : goal.returns-clause-graph
returns-clause-graph g c = let p = c.args.self.now in let h = p.hand in let q = c.publish.new.self in let z = site_in h in let v = view_in h in let w =
    view_in q in
    let known = known_again z.sizes v.known p.all_known in
    let alone = sole z v h.measured p.has_all p.editor p.one_version p.at_version p.at_page known in
    let e = c.publish.ensures in
    let key = c.args.key.now in let payload = c.args.payload.now in
    let told = tells_put z.sizes v.known w.known known key payload c.publish.result (e.knows alone) in (
      subst (λ (y : Sizes). WhereTold (Some (rows_known v.known)) (PutTells y key c.publish.result)) (sym h.measured) told.0,
      told.1,
    )
