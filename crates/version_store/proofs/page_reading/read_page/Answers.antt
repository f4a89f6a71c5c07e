use Rattle.std.proofs.Common.{◌-◌, ◌<◌, ◌++◌, ◌∷◌, [], ℕ, take, length-append, refl, sym, ◌∙◌, subst, arith}
use Rattle.std.specs.Prelude.{Some, None}
use Rattle.pin_rule.specs.declared.sizes.Sizes.{Sizes}
use Rattle.pin_rule.specs.Hands.{view_of}
use Rattle.pin_rule.proofs.KindLoads.{keeps_load_place}
use Rattle.slot_store.proofs.Passing.{row_met}
use Rattle.version_store.specs.Rows.{Found}
use Rattle.version_store.proofs.PageRows as finds
use Rattle.version_store.proofs.page_reading.read_page.Goals as goal

pub loop-place-init : goal.loop-place-init
loop-place-init g c = record {
  table = refl;
  buffer = c.requires.buffer;
  found = ([], refl, finds.begins c.args.current (view_of c.args.hand.now));
}

pub load_place_at-met-requires-clause-keeps : goal.load_place_at-met-requires-clause-keeps
load_place_at-met-requires-clause-keeps g c = let k = c.args.current in let v = view_of c.args.hand.now in let w = view_of c.loop-place.hand in
    let f = c.loop-place.invariant.found in let e = finds.editor_then k v w c.requires.editor f.0 f.2 in
    keeps_load_place g.C.Content.lawful g.C.Content.fits w k.page c.loop-place.place (subst (λ (z : Sizes). c.loop-place.place < z.places) (sym e.sizes)
    c.loop-place-test.true)

pub loop-place-preserved-then-met-eq0 : goal.loop-place-preserved-then-met-eq0
loop-place-preserved-then-met-eq0 g c =
    let k = c.args.current in let v = view_of c.args.hand.now in let w = view_of c.loop-place.hand in let u = view_of c.load_place_at-met.new.self in
    let i = c.loop-place.invariant in let f = i.found in let met : ℕ = c.load_place_at-met.result in record {
      table = c.load_place_at-met.ensures.table ∙ i.table;
      buffer = i.buffer;
      found = (
        f.0 ++ None ∷ [],
        (let n = length-append f.0 (None ∷ []) in let m = f.1 in omega arith),
        finds.empty k v w c.requires.editor f.0 f.2 c.loop-place.place met (sym f.1) u c.load_place_at-met.ensures.view g.C.Content.lawful g.C.Content.fits
            c.load_place_at-met.ensures.told c.load_place_at-met.ensures.met.0 c.if-met-eq0.true,
      );
    }

pub overflow_cast-met : goal.overflow_cast-met
overflow_cast-met g c =
    let k = c.args.current in let v = view_of c.args.hand.now in let w = view_of c.loop-place.hand in let u = view_of c.load_place_at-met.new.self in
    let f = c.loop-place.invariant.found in let met : ℕ = c.load_place_at-met.result in
    let inside : met - 1 < k.sizes.rows = finds.row_in k v w c.requires.editor f.0 f.2 c.loop-place.place met (sym f.1) u c.load_place_at-met.ensures.view
    (met - 1) (row_met met c.if-met-eq0.false) g.C.Content.lawful g.C.Content.fits c.load_place_at-met.ensures.told in
    let few = k.sizes.rows_in in record { fits = omega arith }

pub read_row-requires-clause-row : goal.read_row-requires-clause-row
read_row-requires-clause-row g c =
    let k = c.args.current in let v = view_of c.args.hand.now in let w = view_of c.loop-place.hand in let u = view_of c.load_place_at-met.new.self in
    let f = c.loop-place.invariant.found in let met : ℕ = c.load_place_at-met.result in
    finds.row_in k v w c.requires.editor f.0 f.2 c.loop-place.place met (sym f.1) u c.load_place_at-met.ensures.view
    (met - 1) (row_met met c.if-met-eq0.false) g.C.Content.lawful g.C.Content.fits c.load_place_at-met.ensures.told

pub loop-place-preserved : goal.loop-place-preserved
loop-place-preserved g c =
    let k = c.args.current in let v = view_of c.args.hand.now in let w = view_of c.loop-place.hand in let u = view_of c.load_place_at-met.new.self in
    let x = view_of c.read_row.new.hand in let i = c.loop-place.invariant in let f = i.found in let met : ℕ = c.load_place_at-met.result in
    let row : ℕ = met - 1 in let e = c.read_row.ensures in let words = take c.read_row.result c.read_row.new.buffer in
    let new : Found = record { row = row; words = words } in record {
      table = e.table ∙ c.load_place_at-met.ensures.table ∙ i.table;
      buffer = e.room;
      found = (
        f.0 ++ Some new ∷ [],
        (let n = length-append f.0 (Some new ∷ []) in let m = f.1 in omega arith),
        finds.found_row k v w c.requires.editor f.0 f.2 c.loop-place.place met (sym f.1) u c.load_place_at-met.ensures.view row
            (row_met met c.if-met-eq0.false) x words e.read e.is_whole g.C.Content.lawful g.C.Content.fits e.told c.load_place_at-met.ensures.met.0,
      );
    }
