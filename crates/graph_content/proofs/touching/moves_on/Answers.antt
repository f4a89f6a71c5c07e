use Rattle.std.proofs.Common.{◌+◌, ◌-◌, ◌≤◌, arith, refl, get_or, length, take, drop}
use Rattle.std.proofs.lemmas.List.{length-take, length-drop}
use Rattle.graph_content.proofs.MoveHeads.{room_for_head, next_rest, head_decides, none_decides, first_rest}
use Rattle.graph_content.proofs.touching.moves_on.Goals as goal

pub bounds-rest-0 : goal.bounds-rest-0
bounds-rest-0 c =
    let room = room_for_head c.args.payload.now c.loop.rest.now c.loop.counter c.from-wanted.result c.loop.invariant.moves c.requires c.loop-test.true in
    omega (arith, room)

pub returns-then-found-wanted : goal.returns-then-found-wanted
returns-then-found-wanted c =
    head_decides c.args.payload.now c.loop.rest.now c.loop.counter c.from-wanted.result c.loop.invariant.moves c.args.symbol c.from-wanted.ensures
    c.loop-test.true c.if-found-wanted.true

pub bounds-rest-1 : goal.bounds-rest-1
bounds-rest-1 c =
    let room = room_for_head c.args.payload.now c.loop.rest.now c.loop.counter c.from-wanted.result c.loop.invariant.moves c.requires c.loop-test.true in
    omega (arith, room)

pub overflow_add-next : goal.overflow_add-next
overflow_add-next c =
    let room = room_for_head c.args.payload.now c.loop.rest.now c.loop.counter c.from-wanted.result c.loop.invariant.moves c.requires c.loop-test.true in
    omega (arith, room)

pub offset_bounds-rest-next : goal.offset_bounds-rest-next
offset_bounds-rest-next c =
    let room = room_for_head c.args.payload.now c.loop.rest.now c.loop.counter c.from-wanted.result c.loop.invariant.moves c.requires c.loop-test.true in
    omega (arith, room)

pub slice_bounds-rest-count-in-loop : goal.slice_bounds-rest-count-in-loop
slice_bounds-rest-count-in-loop c =
    room_for_head c.args.payload.now c.loop.rest.now c.loop.counter c.from-wanted.result c.loop.invariant.moves c.requires c.loop-test.true

pub slice_bounds-rest-start-in-loop : goal.slice_bounds-rest-start-in-loop
slice_bounds-rest-start-in-loop c =
    let room = room_for_head c.args.payload.now c.loop.rest.now c.loop.counter c.from-wanted.result c.loop.invariant.moves c.requires c.loop-test.true in
    omega (arith, room)

pub loop-preserved : goal.loop-preserved
loop-preserved c = record {
  moves = next_rest c.args.payload.now c.loop.rest.now c.loop.counter c.from-wanted.result c.loop.invariant.moves c.loop-test.true c.if-found-wanted.false
      (2 + get_or c.loop.rest.now 1 0) refl;
  short = let k = 2 + get_or c.loop.rest.now 1 0 in
      omega (arith, length-take (length c.loop.rest.now - k) (drop k c.loop.rest.now), length-drop k c.loop.rest.now);
}

pub loop-init : goal.loop-init
loop-init c = record {
  moves = λ e is. first_rest c.args.payload.now c.from-wanted.result e is;
  short = omega (arith, length-take (length c.args.payload.now - 2) (drop 2 c.args.payload.now), length-drop 2 c.args.payload.now);
}

pub returns : goal.returns
returns c = λ e is. (
  λ yes. absurd cc,
  λ (upper, there). absurd
      (none_decides c.args.payload.now c.loop.rest.now c.loop.counter c.from-wanted.result c.loop.invariant.moves c.args.symbol c.from-wanted.ensures
      c.loop-test.false e is upper there),
)
