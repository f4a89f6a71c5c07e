use Rattle.std.proofs.Common.{◌<◌, ◌-◌, ℕ, sym, ◌∙◌, subst, arith}
use Rattle.pin_rule.specs.declared.sizes.Sizes.{Sizes}
use Rattle.pin_rule.specs.Hands.{view_of}
use Rattle.pin_rule.proofs.KindLoads.{keeps_load_place}
use Rattle.pin_rule.proofs.KindFreeRow.{keeps_free_row}
use Rattle.slot_store.proofs.Passing.{row_met}
use Rattle.version_store.specs.Freeing.{role_at}
use Rattle.version_store.proofs.FreedRows as freed
use Rattle.version_store.proofs.freeing.free_place.Goals as goal

pub load_place_at-met-requires-clause-keeps : goal.load_place_at-met-requires-clause-keeps
load_place_at-met-requires-clause-keeps g c = keeps_load_place g.C.Content.lawful g.C.Content.fits (view_of c.args.hand.now) c.args.leaving.page c.args.place
    (subst (λ (z : Sizes). c.args.place < z.places) (sym c.requires.giving.2.sizes) c.requires.place)

pub overflow_cast-row : goal.overflow_cast-row
overflow_cast-row g c = let k = c.args.leaving in let q = c.requires.giving in let met : ℕ = c.load_place_at-met.result in
    let lt = freed.row_in k c.args.carried.now q.0 q.1 c.args.place (view_of c.args.hand.now) q.2 c.requires.place met (met - 1)
    c.load_place_at-met.ensures.met.1 (row_met met c.if-met-eq0.false) in let few = k.sizes.rows_in in record { fits = omega arith }

pub has-requires-clause-row : goal.has-requires-clause-row
has-requires-clause-row g c = let k = c.args.leaving in let q = c.requires.giving in let met : ℕ = c.load_place_at-met.result in
    subst (λ (z : Sizes). met - 1 < z.rows) (sym q.2.marked) (freed.row_in k c.args.carried.now q.0 q.1 c.args.place (view_of c.args.hand.now) q.2
    c.requires.place met (met - 1) c.load_place_at-met.ensures.met.1 (row_met met c.if-met-eq0.false))

pub returns-then-met-eq0-clause-freed : goal.returns-then-met-eq0-clause-freed
returns-then-met-eq0-clause-freed g c = λ role given h. (
  c.load_place_at-met.result,
  freed.frees_none c.args.leaving c.args.carried.now role given c.args.place (view_of c.args.hand.now) h c.requires.place c.load_place_at-met.result
      (view_of c.load_place_at-met.new.self) c.load_place_at-met.ensures.view c.if-met-eq0.true,
)

pub returns-then-has-clause-freed : goal.returns-then-has-clause-freed
returns-then-has-clause-freed g c = λ role given h. let k = c.args.leaving in let m = c.args.carried.now in let met : ℕ = c.load_place_at-met.result in
    let v = view_of c.args.hand.now in let is = row_met met c.if-met-eq0.false in
    let lt = freed.row_in k m role given c.args.place v h c.requires.place met (met - 1) c.load_place_at-met.ensures.met.1 is in (
      met,
      freed.frees_carried k m role given c.args.place v h c.requires.place met (view_of c.load_place_at-met.new.self) c.load_place_at-met.ensures.view (met - 1)
          is (sym (h.carried_are (met - 1) lt) ∙ sym c.has.ensures ∙ c.if-has.true),
    )

pub free_row-requires-clause-row : goal.free_row-requires-clause-row
free_row-requires-clause-row g c = let k = c.args.leaving in let m = c.args.carried.now in let q = c.requires.giving in
    let met : ℕ = c.load_place_at-met.result in
    let v = view_of c.args.hand.now in let is = row_met met c.if-met-eq0.false in
    let lt = freed.row_in k m q.0 q.1 c.args.place v q.2 c.requires.place met (met - 1) c.load_place_at-met.ensures.met.1 is in
    subst (λ (z : Sizes). met - 1 < z.rows) (sym (freed.sizes_loaded k m q.0 q.1 c.args.place v q.2 c.requires.place met (view_of c.load_place_at-met.new.self)
    c.load_place_at-met.ensures.view (met - 1) is (sym (q.2.carried_are (met - 1) lt) ∙ sym c.has.ensures ∙ c.if-has.false))) lt

pub free_row-requires-clause-keeps : goal.free_row-requires-clause-keeps
free_row-requires-clause-keeps g c = let k = c.args.leaving in let m = c.args.carried.now in let q = c.requires.giving in
    let met : ℕ = c.load_place_at-met.result in
    let v = view_of c.args.hand.now in let is = row_met met c.if-met-eq0.false in
    let lt = freed.row_in k m q.0 q.1 c.args.place v q.2 c.requires.place met (met - 1) c.load_place_at-met.ensures.met.1 is in
    keeps_free_row g.C.Content.lawful g.C.Content.fits (view_of c.load_place_at-met.new.self) (role_at k.sizes q.0 q.1 c.args.place)
    (record q.1 { reached = c.args.place }) (met - 1)
    (freed.left_behind k m q.0 q.1 c.args.place v q.2 c.requires.place met (view_of c.load_place_at-met.new.self)
    c.load_place_at-met.ensures.view (met - 1) is (sym (q.2.carried_are (met - 1) lt) ∙ sym c.has.ensures ∙ c.if-has.false))

pub returns-clause-freed : goal.returns-clause-freed
returns-clause-freed g c = λ role given h. let k = c.args.leaving in let m = c.args.carried.now in let met : ℕ = c.load_place_at-met.result in
    let v = view_of c.args.hand.now in let is = row_met met c.if-met-eq0.false in
    let lt = freed.row_in k m role given c.args.place v h c.requires.place met (met - 1) c.load_place_at-met.ensures.met.1 is in (
      met,
      freed.frees_row k m role given c.args.place v h c.requires.place met (view_of c.load_place_at-met.new.self) c.load_place_at-met.ensures.view (met - 1) is
          (sym (h.carried_are (met - 1) lt) ∙ sym c.has.ensures ∙ c.if-has.false) (view_of c.free_row.new.self) c.free_row.ensures.view,
    )
