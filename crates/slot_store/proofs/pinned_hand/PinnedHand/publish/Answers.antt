use Rattle.std.proofs.Common.{List, sym, ap, ◌∙◌, subst, arith}
use Rattle.pin_rule.specs.declared.sizes.Sizes.{Sizes}
use Rattle.pin_rule.specs.declared.view.View.{View}
use Rattle.pin_rule.specs.declared.view.KnownPlace.{KnownPlace}
use Rattle.pin_rule.specs.Hands.{view_of, table_of}
use Rattle.pin_rule.specs.Told.{StandsKnown}
use Rattle.slot_store.specs.Walks.{IsAtWork}
use Rattle.slot_store.specs.Known.{AreLater}
use Rattle.slot_store.specs.declared.page.Put.TheVariants as put
use Rattle.slot_store.proofs.Concluding as concludes
use Rattle.slot_store.proofs.Extending.{publishes, publishes_row}
use Rattle.slot_store.proofs.Growing.{quietly, work_on, told_at}
use Rattle.slot_store.proofs.LaterPlaces.{later_self}
use Rattle.slot_store.proofs.Lacking.{one_page}
use Rattle.slot_store.proofs.Settling.{lacks_before}
use Rattle.slot_store.specs.Known.{PutKnows}
use Rattle.slot_store.proofs.pinned_hand.PinnedHand.publish.Goals as goal

-- all rows are in use

pub returns-in_default-clause-put : goal.returns-in_default-clause-put
returns-in_default-clause-put g c =
    let p = c.args.self.now in let q = c.claim_row.new.hand in let k = c.in_default.ensures.claim in
    publishes p.site (view_of p.hand) (view_of q) (table_of p.hand) (table_of q) k.added (quietly (view_of p.hand) (view_of q) k.added k.moves)
    (k.is.0 ∙ sym p.free) c.in_default.ensures.table c.args.key.now c.args.payload.now put.PoolFull p.measured (λ row lt. k.is.1 row (omega arith) lt)

pub returns-in_default-clause-knows : goal.returns-in_default-clause-knows
returns-in_default-clause-knows g c sole =
    let p = c.args.self.now in let z = p.site in let v = view_of p.hand in let w = view_of c.claim_row.new.hand in let k = c.in_default.ensures.claim in
    let work = work_on z v w k.added (record {
      sizes = p.measured;
      share = p.shared;
      pinned = p.pinned;
      caught_up = p.caught_up;
      settled = p.settled;
    }) k.moves in (
      one_page _ z w work (told_at g.C.Content.lawful g.C.Content.fits z w work c.in_default.ensures.told) (k.moves.share ∙ sole.share),
      subst (AreLater v.known) (sym k.known) (later_self v.known),
      λ row lt. subst (λ (y : Sizes). StandsKnown y v.known row) p.measured (k.is.2 sole row (omega arith) lt),
    )

-- the row was brought to a place, or back

pub give_back-requires-clause-keeps : goal.give_back-requires-clause-keeps
give_back-requires-clause-keeps g c =
    concludes.may_give_back g.C.Content.lawful g.C.Content.fits (view_of c.place_row.new.hand) c.in-Some.row c.in-Already.ensures.placed.is.1

pub give_back-requires-in-Full-clause-keeps : goal.give_back-requires-in-Full-clause-keeps
give_back-requires-in-Full-clause-keeps g c =
    concludes.may_give_back g.C.Content.lawful g.C.Content.fits (view_of c.place_row.new.hand) c.in-Some.row c.in-Full.ensures.placed.is.1

pub returns-in-Here-clause-put : goal.returns-in-Here-clause-put
returns-in-Here-clause-put g c =
    let p = c.args.self.now in let v = view_of p.hand in let w = view_of c.claim_row.new.hand in let q = c.place_row.new.hand in
    let z = p.site in let k = c.in-Here.ensures.placed in let key = c.args.key.now in
    let payload = c.args.payload.now in let row = c.in-Some.row in let cl = c.in-Some.ensures.claim in let at = k.is.0 in
    let table = c.in-Here.ensures.table ∙ c.claim_row.ensures.table in
    publishes_row z v at.2.view (view_of q) (table_of p.hand) (table_of q) _ at.0 row
    (concludes.moves_before z v w (view_of q) row key payload cl (view_of q) k.added at.0 at.1 at.2) p.measured at.2.is p.free table key payload
    (concludes.made z v w (view_of q) row key payload cl (view_of q) k.added at.0 at.1 at.2)

pub returns-in-Already-clause-put : goal.returns-in-Already-clause-put
returns-in-Already-clause-put g c =
    let p = c.args.self.now in let v = view_of p.hand in let w = view_of c.claim_row.new.hand in
    let y = view_of c.place_row.new.hand in let q = c.give_back.new.self in let z = p.site in let k = c.in-Already.ensures.placed in
    let key = c.args.key.now in let payload = c.args.payload.now in let row = c.in-Some.row in let cl = c.in-Some.ensures.claim in
    let table = c.give_back.ensures.table ∙ c.in-Already.ensures.table ∙ c.claim_row.ensures.table in
    let same = (concludes.moves z v w y row key payload cl k.added k.is.0).sizes ∙ p.measured in
    publishes p.site v (view_of q) (table_of p.hand) (table_of q) (concludes.ended z v w y row key payload cl k.added)
    (concludes.ends z v w y row key payload cl k.added (view_of q) k.is.0 same c.give_back.ensures.view)
    (ap (λ (u : View). u.own) c.give_back.ensures.view ∙ sym p.free) table key payload put.Already p.measured
    (concludes.already z v w y row key payload cl k)

pub returns-in-Full-clause-put : goal.returns-in-Full-clause-put
returns-in-Full-clause-put g c =
    let p = c.args.self.now in let v = view_of p.hand in let w = view_of c.claim_row.new.hand in
    let y = view_of c.place_row.new.hand in let q = c.give_back-in-Full.new.self in let z = p.site in let k = c.in-Full.ensures.placed in
    let key = c.args.key.now in let payload = c.args.payload.now in let row = c.in-Some.row in let cl = c.in-Some.ensures.claim in
    let table = c.give_back-in-Full.ensures.table ∙ c.in-Full.ensures.table ∙ c.claim_row.ensures.table in
    let same = (concludes.moves z v w y row key payload cl k.added k.is.0).sizes ∙ p.measured in
    publishes p.site v (view_of q) (table_of p.hand) (table_of q) (concludes.ended z v w y row key payload cl k.added)
    (concludes.ends z v w y row key payload cl k.added (view_of q) k.is.0 same c.give_back-in-Full.ensures.view)
    (ap (λ (u : View). u.own) c.give_back-in-Full.ensures.view ∙ sym p.free) table key payload put.PageFull p.measured
    (concludes.page_full z v w y row key payload cl k)

pub returns-in-Here-clause-knows : goal.returns-in-Here-clause-knows
returns-in-Here-clause-knows g c sole =
    let p = c.args.self.now in let v = view_of p.hand in let w = view_of c.claim_row.new.hand in let u = view_of c.place_row.new.hand in
    let z = p.site in let k = c.in-Here.ensures.placed in let key = c.args.key.now in
    let payload = c.args.payload.now in let row = c.in-Some.row in let cl = c.in-Some.ensures.claim in let at = k.is.0 in
    let work : IsAtWork z v = record { sizes = p.measured; share = p.shared; pinned = p.pinned; caught_up = p.caught_up; settled = p.settled } in
    let working = concludes.at_work z v w u row key payload cl u k.added at.0 at.1 at.2 work in (
      one_page _ z u working (told_at g.C.Content.lawful g.C.Content.fits z u working c.in-Here.ensures.told)
          (concludes.same_share z v w u row key payload cl u k.added at.0 at.1 at.2 ∙ sole.share),
      lacks_before z v w cl.added key cl.moves k.is.1 sole,
      concludes.made_known z v w u row key payload cl u k.added at.0 at.1 at.2 sole,
    )

pub returns-in-Already-clause-knows : goal.returns-in-Already-clause-knows
returns-in-Already-clause-knows g c sole =
    let p = c.args.self.now in let v = view_of p.hand in let w = view_of c.claim_row.new.hand in
    let y = view_of c.place_row.new.hand in let q = c.give_back.new.self in let z = p.site in let k = c.in-Already.ensures.placed in
    let key = c.args.key.now in let payload = c.args.payload.now in let row = c.in-Some.row in let cl = c.in-Some.ensures.claim in
    let work : IsAtWork z v = record { sizes = p.measured; share = p.shared; pinned = p.pinned; caught_up = p.caught_up; settled = p.settled } in
    let working = work_on z v y (concludes.walked z v w y row key payload cl k.added) work (concludes.moves z v w y row key payload cl k.added k.is.0) in
    let told = told_at g.C.Content.lawful g.C.Content.fits z y working c.in-Already.ensures.told in let at = k.is.2 in
    subst (λ (ks : List KnownPlace). PutKnows z.sizes v.known ks key payload put.Already) (sym (ap (λ (t : View). t.known) c.give_back.ensures.view))
    (concludes.already_known z v w y row key payload cl _ k.added k.is.0 work told sole at.0 at.1 at.2 at.4 at.5)

pub returns-in-Full-clause-knows : goal.returns-in-Full-clause-knows
returns-in-Full-clause-knows g c sole =
    let p = c.args.self.now in let v = view_of p.hand in let w = view_of c.claim_row.new.hand in
    let y = view_of c.place_row.new.hand in let q = c.give_back-in-Full.new.self in let z = p.site in let k = c.in-Full.ensures.placed in
    let key = c.args.key.now in let payload = c.args.payload.now in let row = c.in-Some.row in let cl = c.in-Some.ensures.claim in
    let work : IsAtWork z v = record { sizes = p.measured; share = p.shared; pinned = p.pinned; caught_up = p.caught_up; settled = p.settled } in
    let working = work_on z v y (concludes.walked z v w y row key payload cl k.added) work (concludes.moves z v w y row key payload cl k.added k.is.0) in
    let told = told_at g.C.Content.lawful g.C.Content.fits z y working c.in-Full.ensures.told in
    subst (λ (ks : List KnownPlace). PutKnows z.sizes v.known ks key payload put.PageFull) (sym (ap (λ (t : View). t.known) c.give_back-in-Full.ensures.view))
    (concludes.full_known z v w y row key payload cl _ k.added k.is.0 work told sole k.is.2)
