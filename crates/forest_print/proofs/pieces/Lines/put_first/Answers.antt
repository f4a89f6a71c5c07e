use Rattle.std.proofs.Common.{◌≡◌, ℕ, ◌+◌, ◌-◌, ◌≤◌, List, ◌++◌, length, take, ap, ◌∙◌, arith}
use borrow.Rule.Slice.PartMut.{post_of}
use Rattle.std.proofs.lemmas.List.{with_items_is}
use Rattle.forest_print.proofs.Rooms.{front_counts, same_length}
use Rattle.forest_print.proofs.pieces.Lines.put_first.Goals as goal

pub returns-clause-whole : goal.returns-clause-whole
returns-clause-whole c =
    let ready : List ℕ = c.make_room.new.bytes.items in
    let bytes : List ℕ = c.args.bytes.now in
    let end : ℕ = c.self.inside.end in
    let count : ℕ = c.args.count in
    let more : ℕ = end + length bytes - end in
    let same : c.deref_mut.result.now ≡ ready = c.deref_mut.ensures.value in
    let copied : c.copy_from_slice.new.self ≡ bytes = c.copy_from_slice.ensures.after in
    let kept : take end ready ≡ c.args.self.now = c.make_room.ensures.kept ∙ c.self.view_is in
    let few : count ≤ length bytes = c.requires in
    let within : end ≤ length ready = omega arith in
    let room : end + more ≤ length ready = omega (arith, c.in_ok-make_room.ensures.room) in
    let over : List ℕ → List ℕ → List ℕ = λ new was. take end was ++ (new ++ post_of end more was) in
    let written : over c.copy_from_slice.new.self c.deref_mut.result.now ≡ over bytes ready =
    ap (λ (was : List ℕ). over c.copy_from_slice.new.self was) same ∙ ap (λ (new : List ℕ). over new ready) copied in
    let long : length (over c.copy_from_slice.new.self c.deref_mut.result.now) ≡ c.make_room.new.bytes.len =
    ap length written ∙ same_length ready bytes end more room (omega arith) ∙ omega arith in
    ap (take (end + count)) (with_items_is c.make_room.new.bytes (over c.copy_from_slice.new.self c.deref_mut.result.now) long ∙ written)
    ∙ front_counts ready bytes (post_of end more ready) end count within few ∙ ap (λ front. front ++ take count bytes) kept
