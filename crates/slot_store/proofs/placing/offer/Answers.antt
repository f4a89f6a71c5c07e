use Rattle.std.proofs.Common.{◌<◌, sym, subst}
use Rattle.pin_rule.specs.declared.sizes.Sizes.{Sizes}
use Rattle.pin_rule.specs.Hands.{view_of}
use Rattle.pin_rule.proofs.KindLoads.{keeps_load_place}
use Rattle.slot_store.specs.Keys.{row_of}
use Rattle.slot_store.proofs.Growing.{told_at}
use Rattle.slot_store.proofs.Offering as offers
use Rattle.slot_store.proofs.Passing.{loaded_on}
use Rattle.slot_store.proofs.placing.offer.Goals as goal

pub load_place-met-requires-clause-place : goal.load_place-met-requires-clause-place
load_place-met-requires-clause-place g c = let z = c.args.site in let p = c.requires.place in let on = offers.inside _ z _ _ _ _ _ _ p.1 in
    subst (λ (y : Sizes). (c.args.site.page < y.versions) × (c.args.place < y.places)) (sym c.requires.work.sizes) (c.args.site.page_in, on)

pub load_place-met-requires-clause-keeps : goal.load_place-met-requires-clause-keeps
load_place-met-requires-clause-keeps g c = let h = c.args.hand.now in let p = c.requires.place in let on = offers.inside _ c.args.site _ _ _ _ _ _ p.1 in
    keeps_load_place g.C.Content.lawful g.C.Content.fits (view_of h) c.args.site.page c.args.place
    (subst (λ (y : Sizes). c.args.place < y.places) (sym c.requires.work.sizes) on)

pub returns-then-met-ne0-clause-offer : goal.returns-then-met-ne0-clause-offer
returns-then-met-ne0-clause-offer g c = let r = c.load_place-met in let z = c.args.site in let v = view_of c.args.hand.now in let u = view_of r.new.self in
    let p = c.requires.place in let lt = offers.inside _ z _ _ _ _ _ _ p.1 in
    offers.taken _ z v u c.args.place c.args.row r.result c.args.key.now (row_of c.args.key.now c.args.payload.now) c.requires.work lt r.ensures.view
    c.if-met-ne0.true p.1.owns
    (told_at g.C.Content.lawful g.C.Content.fits z u (loaded_on z v u c.requires.work c.args.place r.result lt r.ensures.view) r.ensures.told)

pub publish-requires-clause-place : goal.publish-requires-clause-place
publish-requires-clause-place g c = let z = c.args.site in let r = c.load_place-met in let p = c.requires.place in let on = offers.inside _ z _ _ _ _ _ _ p.1 in
    let v = view_of c.args.hand.now in let F = g.C.Content.fits v.log in let words = row_of c.args.key.now c.args.payload.now in
    let work = offers.at_work F z v (view_of r.new.self) c.args.place c.args.row r.result c.args.key.now words c.requires.work on r.ensures.view
    (view_of c.write_whole.new.hand) c.write_whole.ensures.wrote in
    subst (λ (y : Sizes). (c.args.site.page < y.versions) × (c.args.place < y.places)) (sym work.sizes) (c.args.site.page_in, on)

pub publish-requires-clause-keeps : goal.publish-requires-clause-keeps
publish-requires-clause-keeps g c = let z = c.args.site in let v = view_of c.args.hand.now in let r = c.load_place-met in let u = view_of r.new.self in
    let x = view_of c.write_whole.new.hand in let p = c.requires.place in let wrote = c.write_whole.ensures.wrote in
    let on = offers.inside _ z _ _ _ _ _ _ p.1 in let key = c.args.key.now in
    let words = row_of key c.args.payload.now in let F = g.C.Content.fits v.log in
    let work = offers.at_work F z v u c.args.place c.args.row r.result key words c.requires.work on r.ensures.view x wrote in
    let quiet = offers.quiet_so_far F z v u c.args.place c.args.row r.result key words c.requires.work on r.ensures.view x wrote in
    offers.may_publish g.C.Content.fits z v u x _ c.args.row key c.args.payload.now p.0 c.args.place quiet p.1 wrote g.C.Content.lawful work

pub returns-clause-offer : goal.returns-clause-offer
returns-clause-offer g c = let z = c.args.site in let v = view_of c.args.hand.now in let r = c.load_place-met in let u = view_of r.new.self in
    let x = view_of c.write_whole.new.hand in let q = c.publish in let wrote = c.write_whole.ensures.wrote in let p = c.requires.place in
    let on = offers.inside _ z _ _ _ _ _ _ p.1 in let key = c.args.key.now in let payload = c.args.payload.now in
    let words = row_of key payload in let F = g.C.Content.fits v.log in let L = g.C.Content.lawful in
    let met = c.if-met-ne0.false in
    let told = told_at L g.C.Content.fits z u (loaded_on z v u c.requires.work c.args.place r.result on r.ensures.view) r.ensures.told in
    offers.offered _ F _ z v u c.args.row r.result key payload p.0 c.args.place c.requires.work p.1 r.ensures.view told r.ensures.met.0 met x wrote
    (view_of q.new.self) q.result q.ensures.view q.ensures.met
    (told_at L g.C.Content.fits z (view_of q.new.self)
    (offers.after_it F z v u c.args.place c.args.row r.result key words c.requires.work on r.ensures.view x wrote (view_of q.new.self) q.result q.ensures.view)
    q.ensures.told)
