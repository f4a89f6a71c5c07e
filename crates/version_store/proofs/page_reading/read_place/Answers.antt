use Rattle.std.proofs.Common.{◌-◌, ◌<◌, ℕ, take, sym, subst, arith}
use Rattle.pin_rule.specs.declared.sizes.Sizes.{Sizes}
use Rattle.pin_rule.specs.Hands.{view_of}
use Rattle.pin_rule.proofs.KindLoads.{keeps_load_place}
use Rattle.slot_store.proofs.Passing.{row_met}
use Rattle.version_store.proofs.PlaceRead as reads
use Rattle.version_store.proofs.RowChoice.{read_fits}
use Rattle.version_store.proofs.page_reading.read_place.Goals as goal

pub load_place-met-requires-clause-keeps : goal.load_place-met-requires-clause-keeps
load_place-met-requires-clause-keeps g c = keeps_load_place g.C.Content.lawful g.C.Content.fits (view_of c.args.hand.now) c.args.current.page c.args.place
    (subst (λ (z : Sizes). c.args.place < z.places) (sym c.requires.editor.sizes) c.requires.place)

pub returns-then-met-eq0-clause-none : goal.returns-then-met-eq0-clause-none
returns-then-met-eq0-clause-none g c = let k = c.load_place-met in
    reads.reads_none c.args.current (view_of c.args.hand.now) c.requires.editor c.args.place k.result (view_of k.new.self) k.ensures.view k.ensures.met.0
    c.if-met-eq0.true

pub overflow_cast-row : goal.overflow_cast-row
overflow_cast-row g c = let k = c.load_place-met in let met : ℕ = k.result in
    let lt = reads.row_in c.args.current (view_of c.args.hand.now) c.requires.editor c.args.place met (view_of k.new.self) k.ensures.view (met - 1)
    (row_met met c.if-met-eq0.false) g.C.Content.lawful g.C.Content.fits k.ensures.told in let few = c.args.current.sizes.rows_in in
    record { fits = omega arith }

pub read_row-count-requires-clause-editor : goal.read_row-count-requires-clause-editor
read_row-count-requires-clause-editor g c = let k = c.load_place-met in
    reads.editor_at c.args.current (view_of c.args.hand.now) c.requires.editor c.args.place k.result (view_of k.new.self) k.ensures.view

pub read_row-count-requires-clause-row : goal.read_row-count-requires-clause-row
read_row-count-requires-clause-row g c = let k = c.load_place-met in let met : ℕ = k.result in
    reads.row_in c.args.current (view_of c.args.hand.now) c.requires.editor c.args.place met (view_of k.new.self) k.ensures.view (met - 1)
    (row_met met c.if-met-eq0.false) g.C.Content.lawful g.C.Content.fits k.ensures.told

pub read_row-count-requires-clause-named : goal.read_row-count-requires-clause-named
read_row-count-requires-clause-named g c = let k = c.load_place-met in let met : ℕ = k.result in
    reads.named c.args.current (view_of c.args.hand.now) c.requires.editor c.args.place met (view_of k.new.self) k.ensures.view (met - 1)
    (row_met met c.if-met-eq0.false)

pub returns-clause-some : goal.returns-clause-some
returns-clause-some g c = let k = c.load_place-met in let met : ℕ = k.result in let e = c.read_row-count.ensures in (
  e.few,
  (
    met - 1,
    reads.reads_row c.args.current (view_of c.args.hand.now) c.requires.editor c.args.place met (view_of k.new.self) k.ensures.view (met - 1)
        (row_met met c.if-met-eq0.false) k.ensures.met.0 (view_of c.read_row-count.new.hand) (take c.read_row-count.result c.read_row-count.new.buffer)
        e.read e.is_whole,
  ),
)

pub returns-clause-fits : goal.returns-clause-fits
returns-clause-fits g c = let k = c.load_place-met in let met : ℕ = k.result in let e = c.read_row-count.ensures in
    let v = view_of c.args.hand.now in let u = view_of k.new.self in
    read_fits g.C.Content.lawful g.C.Content.fits c.args.current u (view_of c.read_row-count.new.hand) (met - 1)
    (take c.read_row-count.result c.read_row-count.new.buffer)
    (reads.editor_at c.args.current v c.requires.editor c.args.place met u k.ensures.view)
    (reads.named c.args.current v c.requires.editor c.args.place met u k.ensures.view (met - 1) (row_met met c.if-met-eq0.false))
    e.read e.is_whole e.told
