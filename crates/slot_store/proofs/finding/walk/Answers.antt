use Rattle.std.proofs.Common.{◌≡◌, ◌-◌, ◌<◌, ℕ, refl, sym, ap, ◌∙◌, subst, arith}
use Rattle.pin_rule.specs.declared.sizes.Sizes.{Sizes}
use Rattle.pin_rule.specs.declared.view.View.{View}
use Rattle.pin_rule.specs.Hands.{view_of, sizes_of}
use Rattle.pin_rule.proofs.KindLoads.{keeps_load_place}
use Rattle.std.specs.Prelude.{IsTrue, Bool, true, false}
use Rattle.slot_store.specs.Quiet.{IsPlain}
use Rattle.slot_store.proofs.Growing.{work_on, told_at}
use Rattle.slot_store.proofs.Passing.{starts, on_the_page, row_met, loaded_on, meets, loaded_it, empty, found, goes_on}
use Rattle.slot_store.proofs.finding.walk.Goals as goal

not_both : (b : Bool) → b ≡ true → b ≡ false → ⊥
not_both b t f = cc

pub loop-step-init : goal.loop-step-init
loop-step-init g c = record {
  table = refl;
  own = refl;
  walking = starts IsPlain c.args.site (view_of c.args.hand.now) c.args.key.now c.first_place-place.result
      c.first_place-place.ensures;
  told = λ n. absurd (n refl);
}

pub load_place_at-met-requires-clause-share : goal.load_place_at-met-requires-clause-share
load_place_at-met-requires-clause-share g c = let k = c.loop-step.invariant.walking in
    (work_on c.args.site (view_of c.args.hand.now) (view_of c.loop-step.hand) k.added c.requires k.moves).share

pub load_place_at-met-requires-clause-place : goal.load_place_at-met-requires-clause-place
load_place_at-met-requires-clause-place g c = let z = c.args.site in let k = c.loop-step.invariant.walking in
    let same : sizes_of c.loop-step.hand ≡ z.sizes = k.moves.sizes ∙ c.requires.sizes in
    let inside = on_the_page IsPlain z (view_of c.args.hand.now) (view_of c.loop-step.hand) c.args.key.now c.loop-step._step c.loop-step.place k
    c.loop-step-test.true
    in
    subst (λ (y : Sizes). (c.args.site.page < y.versions) × (c.loop-step.place < y.places)) (sym same) (c.args.site.page_in, inside)

pub load_place_at-met-requires-clause-keeps : goal.load_place_at-met-requires-clause-keeps
load_place_at-met-requires-clause-keeps g c = let z = c.args.site in let h = c.loop-step.hand in let k = c.loop-step.invariant.walking in
    let same : sizes_of h ≡ z.sizes = k.moves.sizes ∙ c.requires.sizes in
    let inside = on_the_page IsPlain z (view_of c.args.hand.now) (view_of h) c.args.key.now c.loop-step._step c.loop-step.place k c.loop-step-test.true in
    keeps_load_place g.C.Content.lawful g.C.Content.fits (view_of h) c.args.site.page c.loop-step.place (subst (λ (y : Sizes). c.loop-step.place < y.places)
    (sym same) inside)

pub returns-then-met-eq0-clause-walked : goal.returns-then-met-eq0-clause-walked
returns-then-met-eq0-clause-walked g c = let z = c.args.site in let v = view_of c.args.hand.now in let w = view_of c.loop-step.hand in
    let k = c.loop-step.invariant.walking in
    empty z v w c.args.key.now c.loop-step._step c.loop-step.place k c.loop-step.invariant.own (work_on z v w k.added c.requires k.moves)
    (view_of c.load_place_at-met.new.self) c.load_place_at-met.result c.load_place_at-met.ensures.view c.if-met-eq0.true c.loop-step-test.true
    c.load_place_at-met.ensures.met.0

pub overflow_cast-row : goal.overflow_cast-row
overflow_cast-row g c =
    let z = c.args.site in let v = view_of c.args.hand.now in let w = view_of c.loop-step.hand in let u = view_of c.load_place_at-met.new.self in
    let n : ℕ = c.load_place_at-met.result in let place : ℕ = c.loop-step.place in
    let k = c.loop-step.invariant.walking in let work = work_on z v w k.added c.requires k.moves in
    let lt = on_the_page IsPlain z v w c.args.key.now c.loop-step._step place k c.loop-step-test.true in
    let told = told_at g.C.Content.lawful g.C.Content.fits z u (loaded_on z w u work place n lt c.load_place_at-met.ensures.view)
    c.load_place_at-met.ensures.told
    in
    let m = meets z w u work place n lt c.load_place_at-met.ensures.view _ told (n - 1) (row_met n c.if-met-eq0.false) in
    let inside : n - 1 < z.sizes.rows = m.met.0 in let few = z.sizes.rows_in in
    record { fits = omega arith }

pub has_key-requires-clause-row : goal.has_key-requires-clause-row
has_key-requires-clause-row g c =
    let z = c.args.site in let v = view_of c.args.hand.now in let w = view_of c.loop-step.hand in let u = view_of c.load_place_at-met.new.self in
    let n : ℕ = c.load_place_at-met.result in let place : ℕ = c.loop-step.place in
    let k = c.loop-step.invariant.walking in let work = work_on z v w k.added c.requires k.moves in
    let lt = on_the_page IsPlain z v w c.args.key.now c.loop-step._step place k c.loop-step-test.true in
    let told = told_at g.C.Content.lawful g.C.Content.fits z u (loaded_on z w u work place n lt c.load_place_at-met.ensures.view)
    c.load_place_at-met.ensures.told
    in
    let m = meets z w u work place n lt c.load_place_at-met.ensures.view _ told (n - 1) (row_met n c.if-met-eq0.false) in
    let inside : n - 1 < z.sizes.rows = m.met.0 in
    inside

pub returns-then-has_key-clause-walked : goal.returns-then-has_key-clause-walked
returns-then-has_key-clause-walked g c =
    let z = c.args.site in let v = view_of c.args.hand.now in let w = view_of c.loop-step.hand in let u = view_of c.load_place_at-met.new.self in
    let n : ℕ = c.load_place_at-met.result in let place : ℕ = c.loop-step.place in
    let k = c.loop-step.invariant.walking in let work = work_on z v w k.added c.requires k.moves in
    let lt = on_the_page IsPlain z v w c.args.key.now c.loop-step._step place k c.loop-step-test.true in
    let told = told_at g.C.Content.lawful g.C.Content.fits z u (loaded_on z w u work place n lt c.load_place_at-met.ensures.view)
    c.load_place_at-met.ensures.told
    in
    let m = meets z w u work place n lt c.load_place_at-met.ensures.view _ told (n - 1) (row_met n c.if-met-eq0.false) in
    let inside : n - 1 < z.sizes.rows = m.met.0 in
    found z v w c.args.key.now c.loop-step._step place k u (view_of c.has_key.new.hand) (n - 1) m
    (IsTrue c.has_key.result) c.has_key.ensures.compared
    (c.has_key.ensures.compared.own ∙ ap (λ (y : View). y.own) c.load_place_at-met.ensures.view ∙ c.loop-step.invariant.own) c.loop-step-test.true
    c.if-has_key.true inside
    (loaded_it z w u work place n lt c.load_place_at-met.ensures.view _ told (n - 1) (row_met n c.if-met-eq0.false))

pub next_place-place-requires : goal.next_place-place-requires
next_place-place-requires g c = on_the_page IsPlain c.args.site (view_of c.args.hand.now)
    (view_of c.loop-step.hand) c.args.key.now c.loop-step._step c.loop-step.place c.loop-step.invariant.walking c.loop-step-test.true

pub loop-step-preserved : goal.loop-step-preserved
loop-step-preserved g c =
    let z = c.args.site in let v = view_of c.args.hand.now in let w = view_of c.loop-step.hand in let u = view_of c.load_place_at-met.new.self in
    let n : ℕ = c.load_place_at-met.result in let place : ℕ = c.loop-step.place in
    let k = c.loop-step.invariant.walking in let work = work_on z v w k.added c.requires k.moves in
    let lt = on_the_page IsPlain z v w c.args.key.now c.loop-step._step place k c.loop-step-test.true in
    let told = told_at g.C.Content.lawful g.C.Content.fits z u (loaded_on z w u work place n lt c.load_place_at-met.ensures.view)
    c.load_place_at-met.ensures.told
    in
    let m = meets z w u work place n lt c.load_place_at-met.ensures.view _ told (n - 1) (row_met n c.if-met-eq0.false) in
    let inside : n - 1 < z.sizes.rows = m.met.0 in record {
      table = c.has_key.ensures.table ∙ c.load_place_at-met.ensures.table ∙ c.loop-step.invariant.table;
      own = c.has_key.ensures.compared.own ∙ ap (λ (y : View). y.own) c.load_place_at-met.ensures.view ∙ c.loop-step.invariant.own;
      walking = goes_on IsPlain (λ _ p. p) z v w c.args.key.now c.loop-step._step place k u (view_of c.has_key.new.hand) (n - 1) m
          (IsTrue c.has_key.result) c.has_key.ensures.compared (λ t. not_both c.has_key.result t c.if-has_key.false) c.next_place-place.result
          (c.next_place-place.ensures c.args.key.now c.loop-step._step k.at);
      told = λ _. c.has_key.ensures.told;
    }

pub returns-clause-told : goal.returns-clause-told
returns-clause-told g c = let some = c.args.site.sizes.places_in in let out = c.loop-step-test.false in c.loop-step.invariant.told (λ e. omega arith)
