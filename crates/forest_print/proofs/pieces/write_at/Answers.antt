use Rattle.std.proofs.Common.{ℕ, ◌-◌, ◌≤◌, length, drop, arith}
use borrow.Rule.Slice.PartMut.{mid_of, post_of}
use Rattle.forest_print.proofs.Rooms.{room_counts}
use Rattle.forest_print.proofs.pieces.write_at.Goals as goal

pub returns-clause-front : goal.returns-clause-front
returns-clause-front c =
    let at : ℕ = c.args.at in
    let old = c.args.bytes.now in
    let more : ℕ = length old - at in
    λ (count : ℕ) (few : count ≤ 32). room_counts old c.write_front.new.bytes c.args.room.now (drop 32 (mid_of at more old)) (post_of at more old) at count
    (omega arith) (omega arith) c.write_front.ensures
