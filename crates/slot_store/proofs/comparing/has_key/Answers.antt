use Rattle.std.proofs.Common.{◌≡◌, ◌+◌, ◌<◌, ◌≤◌, ℕ, length, List, refl, sym, ap, ◌∙◌, subst, arith}
use Rattle.pin_rule.specs.declared.sizes.Sizes.{Sizes}
use Rattle.pin_rule.specs.Hands.{view_of, sizes_of}
use Rattle.pin_rule.proofs.KindLoads.{keeps_load_row}
use Rattle.slot_store.specs.Keys.{TellsKey}
use Rattle.slot_store.proofs.Growing.{told_at}
use Rattle.slot_store.proofs.Reading.{Reading, past, knows_both, sizes_on, starts, differs, agrees, past_one, ends, head_at}
use Rattle.slot_store.specs.declared.site.Site.{Site}
use Rattle.slot_store.proofs.comparing.has_key.Goals as goal

-- each row has room for its lengths
first_in : (z : Site) → 0 < z.sizes.width
first_in z = let w = z.sizes.width_in in omega arith

pub load_row_at-requires-clause-keeps : goal.load_row_at-requires-clause-keeps
load_row_at-requires-clause-keeps g c = let h = c.args.hand.now in let z = c.args.site in let w = z.sizes.width_in in
    let e : (sizes_of h).width ≡ z.sizes.width = ap (λ (y : Sizes). y.width) c.requires.work.sizes in
    keeps_load_row g.C.Content.lawful g.C.Content.fits (view_of h) c.args.row 0 (omega arith)

pub returns-then-load_row_at-key-clause-compared : goal.returns-then-load_row_at-key-clause-compared
returns-then-load_row_at-key-clause-compared g c = let v = view_of c.args.hand.now in
    differs c.args.site v v (view_of c.load_row_at.new.self) c.args.row c.args.key.now c.requires.work 0 0 c.load_row_at.result (first_in c.args.site)
    c.load_row_at.ensures.view
    (starts c.args.site v c.args.row c.args.key.now c.requires.known) (omega arith, (λ e. omega arith)) c.if-load_row_at-key.true

pub loop-i-init : goal.loop-i-init
loop-i-init g c =
    let v = view_of c.args.hand.now in let u = view_of c.load_row_at.new.self in let z = c.args.site in let row = c.args.row in let key = c.args.key.now in
    let n : ℕ = c.load_row_at.result in
    let start = starts z v row key c.requires.known in let is = c.load_row_at.ensures.view in
    let known = knows_both z v v u row key c.requires.work 0 0 n (first_in z) is start in
    let wide : 2 + n ≤ u.sizes.width = (told_at g.C.Content.lawful g.C.Content.fits z u
    (past z v v u row key c.requires.work 0 0 n (first_in z) is start) c.load_row_at.ensures.told).key row n known.0 known.1 in
    let same : u.sizes.width ≡ z.sizes.width = ap (λ (y : Sizes). y.width) (sizes_on z v v u row key c.requires.work 0 0 n (first_in z) is start) in
    let length_is : n ≡ length key = c.if-load_row_at-key.false in record {
      table = c.load_row_at.ensures.table;
      room = omega arith;
      reading = past_one z v u row key (agrees z v v u row key c.requires.work 0 0 n (first_in z) is start length_is refl);
      told = c.load_row_at.ensures.told;
    }

pub load_row_at-requires-in-loop-i-clause-keeps : goal.load_row_at-requires-in-loop-i-clause-keeps
load_row_at-requires-in-loop-i-clause-keeps g c =
    let h = c.loop-i.hand in let i : ℕ = c.loop-i.i in let z = c.args.site in let r = c.loop-i.invariant.reading in
    let same : (sizes_of h).width ≡ z.sizes.width = ap (λ (y : Sizes). y.width) (r.moves.sizes ∙ c.requires.work.sizes) in let room = c.loop-i.invariant.room in
    let inside : i + 2 < (sizes_of h).width = omega arith in keeps_load_row g.C.Content.lawful g.C.Content.fits (view_of h) c.args.row (i + 2) inside

tells : (key : List ℕ) (i : ℕ) → i < length key → TellsKey key (i + 2)
tells key i h = (omega arith, λ e. omega arith)

pub returns-then-load_row_at-key-2-clause-compared : goal.returns-then-load_row_at-key-2-clause-compared
returns-then-load_row_at-key-2-clause-compared g c =
    let v = view_of c.args.hand.now in let w = view_of c.loop-i.hand in let u = view_of c.load_row_at-in-loop-i.new.self in let i : ℕ = c.loop-i.i in
    let key = c.args.key.now in
    let room = c.loop-i.invariant.room in
    differs c.args.site v w u c.args.row key c.requires.work (i + 2)
    (i + 2) c.load_row_at-in-loop-i.result (omega arith) c.load_row_at-in-loop-i.ensures.view c.loop-i.invariant.reading (tells key i (omega arith))
    (λ e. c.if-load_row_at-key-2.true (e ∙ head_at key i))

pub loop-i-preserved : goal.loop-i-preserved
loop-i-preserved g c =
    let v = view_of c.args.hand.now in let w = view_of c.loop-i.hand in let u = view_of c.load_row_at-in-loop-i.new.self in let i : ℕ = c.loop-i.i in
    let key = c.args.key.now in
    let room = c.loop-i.invariant.room in
    let next = agrees c.args.site v w u c.args.row key c.requires.work (i + 2)
    (i + 2) c.load_row_at-in-loop-i.result (omega arith) c.load_row_at-in-loop-i.ensures.view c.loop-i.invariant.reading (c.if-load_row_at-key-2.false
    ∙ sym (head_at key i)) refl in record {
      table = c.load_row_at-in-loop-i.ensures.table ∙ c.loop-i.invariant.table;
      room = c.loop-i.invariant.room;
      reading = subst (Reading c.args.site v u c.args.row key) (let r : i + 2 + 1 ≡ i + 1 + 2 = omega arith in r) next;
      told = c.load_row_at-in-loop-i.ensures.told;
    }

pub returns-clause-compared : goal.returns-clause-compared
returns-clause-compared g c = ends c.args.site (view_of c.args.hand.now) (view_of c.loop-i.hand) c.args.row c.args.key.now (c.loop-i.i + 2)
    (omega arith) c.loop-i.invariant.reading
