use Rattle.std.proofs.Common.{◌≤◌, ◌<◌, ℕ, [], ◌∷◌, length, length-set, take, set, sym, refl, ◌∙◌, subst, arith}
use Rattle.std.proofs.lemmas.List.{length-take-le, take_more_set}
use Rattle.pin_rule.specs.declared.sizes.Sizes.{Sizes}
use Rattle.pin_rule.specs.Hands.{view_of}
use Rattle.pin_rule.proofs.KindLoads.{keeps_load_row}
use Rattle.version_store.specs.declared.current.Current.{Current}
use Rattle.version_store.specs.Stages.{ReadsRow}
use Rattle.version_store.proofs.RowWords as reads
use Rattle.version_store.proofs.row_reading.read_row.Goals as goal

-- a row has room for its two lengths
wide : (c : Current) → 2 < c.sizes.width
wide c = let w = c.sizes.width_in in omega arith

pub load_row_at-key-requires-clause-keeps : goal.load_row_at-key-requires-clause-keeps
load_row_at-key-requires-clause-keeps g c = let h = c.args.hand.now in let w = wide c.args.current in
    keeps_load_row g.C.Content.lawful g.C.Content.fits (view_of h) c.args.row 0 (subst (λ (z : Sizes). 0 < z.width) (sym c.requires.editor.sizes) (omega arith))

pub load_row_at-payload-requires-clause-keeps : goal.load_row_at-payload-requires-clause-keeps
load_row_at-payload-requires-clause-keeps g c = let k = c.args.current in let v = view_of c.args.hand.now in let u = view_of c.load_row_at-key.new.self in
    let w = wide k in let r = c.requires in let key : ℕ = c.load_row_at-key.result in
    let e = reads.editor_then k v c.args.row r.editor r.named u (key ∷ [])
    (reads.more k v c.args.row r.editor r.named v [] (reads.begins k v c.args.row r.editor r.named) u 0 key refl c.load_row_at-key.ensures.view) in
    keeps_load_row g.C.Content.lawful g.C.Content.fits u c.args.row 1 (subst (λ (z : Sizes). 1 < z.width) (sym e.sizes) (omega arith))

pub overflow_add-count : goal.overflow_add-count
overflow_add-count g c = let k = c.args.current in let v = view_of c.args.hand.now in let u = view_of c.load_row_at-key.new.self in
    let w = view_of c.load_row_at-payload.new.self in let r = c.requires in let key : ℕ = c.load_row_at-key.result in
    let payload : ℕ = c.load_row_at-payload.result in
    let few = reads.fits_row k v c.args.row r.editor r.named u w key payload c.load_row_at-key.ensures.view c.load_row_at-payload.ensures.view
    g.C.Content.lawful g.C.Content.fits c.load_row_at-payload.ensures.told in
    let most = k.sizes.width_in in record { fits = omega arith }

pub overflow_add-count-2 : goal.overflow_add-count-2
overflow_add-count-2 g c = let k = c.args.current in let v = view_of c.args.hand.now in let u = view_of c.load_row_at-key.new.self in
    let w = view_of c.load_row_at-payload.new.self in let r = c.requires in let key : ℕ = c.load_row_at-key.result in
    let payload : ℕ = c.load_row_at-payload.result in
    let few = reads.fits_row k v c.args.row r.editor r.named u w key payload c.load_row_at-key.ensures.view c.load_row_at-payload.ensures.view
    g.C.Content.lawful g.C.Content.fits c.load_row_at-payload.ensures.told in
    let most = k.sizes.width_in in record { fits = omega arith }

pub loop-index-init : goal.loop-index-init
loop-index-init g c = let k = c.args.current in let v = view_of c.args.hand.now in let u = view_of c.load_row_at-key.new.self in
    let w = view_of c.load_row_at-payload.new.self in let r = c.requires in let key : ℕ = c.load_row_at-key.result in
    let payload : ℕ = c.load_row_at-payload.result in
    let few = reads.fits_row k v c.args.row r.editor r.named u w key payload c.load_row_at-key.ensures.view c.load_row_at-payload.ensures.view
    g.C.Content.lawful g.C.Content.fits c.load_row_at-payload.ensures.told in
    let buffer = c.args.buffer.now in let room : 2 ≤ length buffer = (let a = r.room in let b = wide k in omega arith) in
    let a = reads.key_there buffer key payload room in let b = reads.payload_there buffer key payload room in record {
      table = c.load_row_at-payload.ensures.table ∙ c.load_row_at-key.ensures.table;
      room = length-set (set buffer 0 key) 1 payload ∙ length-set buffer 0 key ∙ r.room;
      sized = omega arith;
      few = omega arith;
      begun = omega arith;
      read = subst (ReadsRow k v w c.args.row) (sym (reads.first_words buffer key payload room))
          (reads.both_read k v c.args.row r.editor r.named u w key payload c.load_row_at-key.ensures.view c.load_row_at-payload.ensures.view);
      told = c.load_row_at-payload.ensures.told;
    }

pub load_row_at-requires-clause-keeps : goal.load_row_at-requires-clause-keeps
load_row_at-requires-clause-keeps g c = let k = c.args.current in let v = view_of c.args.hand.now in let w = view_of c.loop-index.hand in
    let r = c.requires in let i = c.loop-index.invariant in let e = reads.editor_then k v c.args.row r.editor r.named w _ i.read in
    keeps_load_row g.C.Content.lawful g.C.Content.fits w c.args.row c.loop-index.index (subst (λ (z : Sizes). c.loop-index.index < z.width) (sym e.sizes)
    (let lt = c.loop-index-test.true in let few = i.few in omega arith))

pub loop-index-preserved : goal.loop-index-preserved
loop-index-preserved g c = let k = c.args.current in let v = view_of c.args.hand.now in let w = view_of c.loop-index.hand in
    let u = view_of c.load_row_at.new.self in let r = c.requires in let i = c.loop-index.invariant in let n : ℕ = c.loop-index.index in
    let x : ℕ = c.load_row_at.result in let buffer = c.loop-index.buffer in
    let inside : n < length buffer = (let lt = c.loop-index-test.true in let few = i.few in let room = i.room in omega arith) in
    let stay = reads.lengths_stay buffer n x i.begun in record {
      table = c.load_row_at.ensures.table ∙ i.table;
      room = length-set buffer n x ∙ i.room;
      sized = (let s = i.sized in omega arith);
      few = i.few;
      begun = (let b = i.begun in omega arith);
      read = subst (ReadsRow k v u c.args.row) (sym (take_more_set buffer n x inside))
          (reads.more k v c.args.row r.editor r.named w (take n buffer) i.read u n x (sym (length-take-le n buffer (omega arith))) c.load_row_at.ensures.view);
      told = c.load_row_at.ensures.told;
    }

pub returns-clause-read : goal.returns-clause-read
returns-clause-read g c = let i = c.loop-index.invariant in subst (λ (n : ℕ). ReadsRow c.args.current (view_of c.args.hand.now) (view_of c.loop-index.hand)
    c.args.row (take n c.loop-index.buffer)) (let e = c.loop-index.auto.index-end in let t = c.loop-index-test.false in omega arith) i.read

pub returns-clause-is_whole : goal.returns-clause-is_whole
returns-clause-is_whole g c = let i = c.loop-index.invariant in
    reads.whole_row c.loop-index.buffer _ i.sized (let few = i.few in let room = i.room in omega arith)
