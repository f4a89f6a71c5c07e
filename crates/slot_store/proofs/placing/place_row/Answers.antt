use Rattle.std.proofs.Common.{◌≡◌, ◌-◌, ◌<◌, ℕ, refl, ◌∙◌, arith}
use Rattle.std.specs.Prelude.{IsTrue, Bool, true, false}
use Rattle.pin_rule.specs.Hands.{view_of}
use Rattle.slot_store.specs.Keys.{row_of}
use Rattle.slot_store.specs.Walks.{IsRowStep}
use Rattle.slot_store.proofs.Growing.{plain_row, work_on}
use Rattle.slot_store.proofs.Passing.{starts, on_the_page, row_met, goes_on}
use Rattle.slot_store.proofs.Settling.{placeable, here, other, owns_on, already, full}
use Rattle.slot_store.proofs.placing.place_row.Goals as goal

not_both : (b : Bool) → b ≡ true → b ≡ false → ⊥
not_both b t f = cc

pub loop-step-init : goal.loop-step-init
loop-step-init g c = record {
  table = refl;
  owns = c.requires.owns;
  walking = starts (IsRowStep c.args.site.sizes c.args.row (row_of c.args.key.now c.args.payload.now)) c.args.site (view_of c.args.hand.now) c.args.key.now
      c.first_place-place.result c.first_place-place.ensures;
  told = λ n. absurd (n refl);
}

pub offer-met-requires-clause-work : goal.offer-met-requires-clause-work
offer-met-requires-clause-work g c = let k = c.loop-step.invariant.walking in
    work_on c.args.site (view_of c.args.hand.now) (view_of c.loop-step.hand) k.added c.requires.work k.moves

pub offer-met-requires-clause-place : goal.offer-met-requires-clause-place
offer-met-requires-clause-place g c = let k = c.loop-step.invariant.walking in let r = c.requires in (
  c.loop-step._step,
  placeable c.args.site (view_of c.args.hand.now) (view_of c.loop-step.hand) c.args.key.now c.args.payload.now c.args.row c.loop-step._step
      c.loop-step.place k g.C.Content.fits c.loop-step.invariant.owns r.room r.fits c.loop-step-test.true,
)

pub returns-then-met-eq0-clause-placed : goal.returns-then-met-eq0-clause-placed
returns-then-met-eq0-clause-placed g c =
    here c.args.site (view_of c.args.hand.now) (view_of c.loop-step.hand) c.args.key.now c.args.payload.now c.args.row c.loop-step._step c.loop-step.place
    c.loop-step.invariant.walking (view_of c.offer-met.new.hand) c.offer-met.result c.offer-met.ensures.offer c.loop-step-test.true c.if-met-eq0.true

pub returns-clause-placed : goal.returns-clause-placed
returns-clause-placed g c = full c.args.site (view_of c.args.hand.now) (view_of c.loop-step.hand) c.args.key.now
    (row_of c.args.key.now c.args.payload.now) c.args.row c.loop-step._step c.loop-step.place c.loop-step-test.false c.loop-step.invariant.owns
    c.loop-step.invariant.walking

pub overflow_cast-met : goal.overflow_cast-met
overflow_cast-met g c = let few = c.args.site.sizes.rows_in in let n : ℕ = c.offer-met.result in
    let inside : n - 1 < c.args.site.sizes.rows = (c.offer-met.ensures.offer.lost (n - 1) (row_met n c.if-met-eq0.false)).met.0 in record { fits = omega arith }

pub has_key-requires-clause-row : goal.has_key-requires-clause-row
has_key-requires-clause-row g c = let n : ℕ = c.offer-met.result in (c.offer-met.ensures.offer.lost (n - 1) (row_met n c.if-met-eq0.false)).met.0

pub returns-then-has_key-clause-placed : goal.returns-then-has_key-clause-placed
returns-then-has_key-clause-placed g c = let n : ℕ = c.offer-met.result in
    already c.args.site (view_of c.args.hand.now) (view_of c.loop-step.hand) c.args.key.now c.args.payload.now c.args.row c.loop-step._step c.loop-step.place
    c.loop-step.invariant.walking (view_of c.offer-met.new.hand) n c.offer-met.ensures.offer c.loop-step-test.true (n - 1)
    (row_met n c.if-met-eq0.false) (view_of c.has_key.new.hand) (IsTrue c.has_key.result) c.has_key.ensures.compared c.if-has_key.true

pub next_place-place-requires : goal.next_place-place-requires
next_place-place-requires g c = on_the_page (IsRowStep c.args.site.sizes c.args.row (row_of c.args.key.now c.args.payload.now)) c.args.site
    (view_of c.args.hand.now)
    (view_of c.loop-step.hand) c.args.key.now c.loop-step._step c.loop-step.place c.loop-step.invariant.walking c.loop-step-test.true

pub loop-step-preserved : goal.loop-step-preserved
loop-step-preserved g c =
    let z = c.args.site in let v = view_of c.args.hand.now in let w = view_of c.loop-step.hand in let u = view_of c.offer-met.new.hand in
    let x = view_of c.has_key.new.hand in
    let n : ℕ = c.offer-met.result in let key = c.args.key.now in let payload = c.args.payload.now in let words = row_of key payload in
    let row = c.args.row in let step : ℕ = c.loop-step._step in
    let place : ℕ = c.loop-step.place in let k = c.loop-step.invariant.walking in let f = c.offer-met.ensures.offer in
    let some = row_met n c.if-met-eq0.false in
    let m = other z v w key payload row step place k u n f (n - 1) some in record {
      table = c.has_key.ensures.table ∙ c.offer-met.ensures.table ∙ c.loop-step.invariant.table;
      owns = owns_on z v w key payload row step place k u n f (n - 1) some x (IsTrue c.has_key.result) c.has_key.ensures.compared;
      walking = goes_on (IsRowStep z.sizes row words) (plain_row z.sizes row words) z v w key step place k u x (n - 1) m (IsTrue c.has_key.result)
          c.has_key.ensures.compared (λ t. not_both c.has_key.result t c.if-has_key.false) c.next_place-place.result
          (c.next_place-place.ensures key step k.at);
      told = λ _. c.has_key.ensures.told;
    }

pub has_key-requires-clause-work : goal.has_key-requires-clause-work
has_key-requires-clause-work g c = let n : ℕ = c.offer-met.result in let z = c.args.site in let v = view_of c.args.hand.now in
    let w = view_of c.loop-step.hand in let u = view_of c.offer-met.new.hand in let k = c.loop-step.invariant.walking in let f = c.offer-met.ensures.offer in
    work_on z w u f.added (work_on z v w k.added c.requires.work k.moves) (f.lost (n - 1) (row_met n c.if-met-eq0.false)).moves

pub returns-clause-told : goal.returns-clause-told
returns-clause-told g c = let some = c.args.site.sizes.places_in in let out = c.loop-step-test.false in c.loop-step.invariant.told (λ e. omega arith)
