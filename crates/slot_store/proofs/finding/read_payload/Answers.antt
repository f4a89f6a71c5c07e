use Rattle.std.proofs.Common.{◌≡◌, ◌+◌, ◌≤◌, ℕ, length, length-set, refl, ap, ◌∙◌, arith}
use Rattle.pin_rule.specs.declared.sizes.Sizes.{Sizes}
use Rattle.pin_rule.specs.Hands.{view_of, sizes_of}
use Rattle.pin_rule.proofs.KindLoads.{keeps_load_row}
use Rattle.slot_store.proofs.Growing.{work_on, told_at}
use Rattle.slot_store.proofs.Copying.{second_in, at_work, loads, starts, wide, goes_on}
use Rattle.slot_store.proofs.finding.read_payload.Goals as goal

pub load_row_at-count-requires-clause-keeps : goal.load_row_at-count-requires-clause-keeps
load_row_at-count-requires-clause-keeps g c = let h = c.args.hand.now in let z = c.args.site in let w = z.sizes.width_in in
    let e : (sizes_of h).width ≡ z.sizes.width = ap (λ (y : Sizes). y.width) c.requires.work.sizes in
    keeps_load_row g.C.Content.lawful g.C.Content.fits (view_of h) c.args.row 1 (omega arith)

pub overflow_cast-from : goal.overflow_cast-from
overflow_cast-from g c =
    let z = c.args.site in let v = view_of c.args.hand.now in let u = view_of c.load_row_at-count.new.self in let row = c.args.row in
    let n : ℕ = c.load_row_at-count.result in let key : ℕ = length c.args.key.now in
    let w = z.sizes.width_in in let room : 2 + (key + n) ≤ z.sizes.width = wide _ z v u row key n c.requires.work
    (loads z v u row 1 n (second_in z) c.requires.work c.requires.known c.load_row_at-count.ensures.view) c.requires.key
    (told_at g.C.Content.lawful g.C.Content.fits z u (at_work z v u row n c.requires.work c.requires.known c.load_row_at-count.ensures.view)
    c.load_row_at-count.ensures.told) in record { fits = omega arith }

pub overflow_add-from : goal.overflow_add-from
overflow_add-from g c =
    let z = c.args.site in let v = view_of c.args.hand.now in let u = view_of c.load_row_at-count.new.self in let row = c.args.row in
    let n : ℕ = c.load_row_at-count.result in let key : ℕ = length c.args.key.now in
    let w = z.sizes.width_in in let room : 2 + (key + n) ≤ z.sizes.width = wide _ z v u row key n c.requires.work
    (loads z v u row 1 n (second_in z) c.requires.work c.requires.known c.load_row_at-count.ensures.view) c.requires.key
    (told_at g.C.Content.lawful g.C.Content.fits z u (at_work z v u row n c.requires.work c.requires.known c.load_row_at-count.ensures.view)
    c.load_row_at-count.ensures.told) in record { fits = omega arith }

pub loop-i-init : goal.loop-i-init
loop-i-init g c =
    let z = c.args.site in let v = view_of c.args.hand.now in let u = view_of c.load_row_at-count.new.self in let row = c.args.row in
    let n : ℕ = c.load_row_at-count.result in let key : ℕ = length c.args.key.now in
    let l = loads z v u row 1 n (second_in z) c.requires.work c.requires.known c.load_row_at-count.ensures.view in
    let room : 2 + (key + n) ≤ z.sizes.width = wide _ z v u row key n c.requires.work l c.requires.key
    (told_at g.C.Content.lawful g.C.Content.fits z u (at_work z v u row n c.requires.work c.requires.known c.load_row_at-count.ensures.view)
    c.load_row_at-count.ensures.told) in record {
      table = c.load_row_at-count.ensures.table;
      told = told_at g.C.Content.lawful g.C.Content.fits z u
          (at_work z v u row n c.requires.work c.requires.known c.load_row_at-count.ensures.view) c.load_row_at-count.ensures.told;
      from = refl;
      wide = omega arith;
      long = refl;
      copies = starts z v u row (key + 2) n c.args.buffer.now l;
    }

pub load_row_at-requires-clause-keeps : goal.load_row_at-requires-clause-keeps
load_row_at-requires-clause-keeps g c =
    let h = c.loop-i.hand in let i : ℕ = c.loop-i.i in let z = c.args.site in let k = c.loop-i.invariant.copies in
    let same : (sizes_of h).width ≡ z.sizes.width = ap (λ (y : Sizes). y.width) (k.moves.sizes ∙ c.requires.work.sizes) in let room = c.loop-i.invariant.wide in
    keeps_load_row g.C.Content.lawful g.C.Content.fits (view_of h) c.args.row (length c.args.key.now + 2 + i) (omega arith)

pub loop-i-preserved : goal.loop-i-preserved
loop-i-preserved g c =
    let z = c.args.site in let v = view_of c.args.hand.now in let w = view_of c.loop-i.hand in let u = view_of c.load_row_at.new.self in
    let i : ℕ = c.loop-i.i in
    let k = c.loop-i.invariant in let asked = c.requires.room in record {
      table = c.load_row_at.ensures.table ∙ k.table;
      told = (let next = goes_on z v w u c.args.row (length c.args.key.now + 2) c.load_row_at-count.result i c.load_row_at.result c.loop-i.buffer
          c.requires.work
          c.load_row_at.ensures.view (let wide = k.wide in let long = k.long in omega arith) (let wide = k.wide in omega arith) k.copies in
          told_at g.C.Content.lawful g.C.Content.fits z u (work_on z v u next.added c.requires.work next.moves) c.load_row_at.ensures.told);
      from = refl;
      wide = k.wide;
      long = length-set c.loop-i.buffer i c.load_row_at.result ∙ k.long;
      copies = goes_on z v w u c.args.row (length c.args.key.now + 2) c.load_row_at-count.result i c.load_row_at.result c.loop-i.buffer c.requires.work
          c.load_row_at.ensures.view (let wide = k.wide in let long = k.long in omega arith) (let wide = k.wide in omega arith) k.copies;
    }
