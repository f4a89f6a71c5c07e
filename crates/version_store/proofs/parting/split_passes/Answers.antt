use Rattle.std.proofs.Common.{◌≡◌, ◌+◌, ◌/◌, length, refl, ◌∙◌, arith}
use Rattle.std.proofs.Math.Nat.{div-le_self, min-le_right}
use Rattle.pin_rule.specs.Hands.{view_of, table_of}
use Rattle.pin_rule.proofs.Parting.{keeps_split}
use Rattle.version_store.proofs.Dividing.{begins, buffer_in, pins_enough, new_share, goes_on}
use Rattle.version_store.proofs.parting.split_passes.Goals as goal

pub loop-made-init : goal.loop-made-init
loop-made-init g c = let r = c.requires in record {
  table = refl;
  buffers = (let m = r.room.many in omega arith);
  each = r.room.each;
  passes = r.room.begun;
  wide = r.room.wide;
  halves = begins (view_of c.args.hand.now) (table_of c.args.hand.now) c.args.pins c.args.room.passes.items r.room.none r.has_all;
  next = omega arith;
  stride = div-le_self c.args.sizes.rows c.args.count;
}

pub split-half-requires-clause-keeps : goal.split-half-requires-clause-keeps
split-half-requires-clause-keeps g c = let r = c.requires in let l = c.loop-made in
    keeps_split g.C.Content.lawful g.C.Content.fits (view_of l.hand) c.args.pins
    (pins_enough (view_of c.args.hand.now) (view_of l.hand) (table_of c.args.hand.now) c.args.pins l._made c.args.count l.passes.items l.invariant.halves
    c.loop-made-test.true r.count.1 r.pins)

pub new-requires-clause-share : goal.new-requires-clause-share
new-requires-clause-share g c = let r = c.requires in let l = c.loop-made in let e = c.split-half.ensures in
    new_share (view_of c.args.hand.now) (view_of l.hand) (table_of c.args.hand.now) c.args.pins l._made c.args.count l.passes.items l.invariant.halves
    c.loop-made-test.true r.count.1 r.pins (view_of c.split-half.new.self) (view_of c.split-half.result) e.left e.new

pub new-requires-clause-room : goal.new-requires-clause-room
new-requires-clause-room g c = let t = c.take_last-buffer in
    let e = (buffer_in (λ b. length b.items ≡ c.args.sizes.width) c.loop-made.buffers.items t.new.self.items t.result t.ensures.items
    c.loop-made.invariant.each).1 in omega arith

pub loop-made-preserved : goal.loop-made-preserved
loop-made-preserved g c = let r = c.requires in let l = c.loop-made in let i = l.invariant in let e = c.split-half.ensures in let t = c.take_last-buffer in
    let p = c.push_reserved in record {
      table = e.tables.0 ∙ i.table;
      buffers = (let a = i.buffers in let b = t.ensures.len in omega arith);
      each = (buffer_in (λ b. length b.items ≡ c.args.sizes.width) l.buffers.items t.new.self.items t.result t.ensures.items i.each).0;
      passes = (let a = i.passes in let b = p.ensures.len in omega arith);
      wide = (let a = i.wide in let b = p.ensures.capacity in omega arith);
      halves = goes_on (view_of c.args.hand.now) (view_of l.hand) (table_of c.args.hand.now) c.args.pins l._made c.args.count l.passes.items i.halves
          c.loop-made-test.true r.count.1 r.pins (view_of c.split-half.new.self) (view_of c.split-half.result) e.left e.new c.new.result
          (table_of c.split-half.result) c.new.ensures (e.tables.1 ∙ i.table) p.new.self.items p.ensures.items;
      next = (let least = min-le_right (l.next + c.args.sizes.rows / c.args.count) c.args.sizes.rows in let is = c.min-next.ensures in omega arith);
      stride = i.stride;
    }
