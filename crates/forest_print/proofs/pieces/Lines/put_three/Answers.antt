use Rattle.std.proofs.Common.{◌≡◌, ℕ, ◌+◌, ◌-◌, ◌≤◌, List, [], ◌∷◌, ◌++◌, length, take, ap, ◌∙◌, arith}
use borrow.Rule.Slice.PartMut.{post_of}
use Rattle.std.proofs.lemmas.List.{with_items_is, length-take, length-drop}
use Rattle.forest_print.proofs.Rooms.{front_counts, same_length}
use Rattle.forest_print.proofs.pieces.Lines.put_three.Goals as goal

pub returns-clause-whole : goal.returns-clause-whole
returns-clause-whole c =
    let ready : List ℕ = c.make_room.new.bytes.items in
    let new : List ℕ = c.write_three-count.new.bytes in
    let end : ℕ = c.self.inside.end in
    let count : ℕ = c.write_three-count.result in
    let more : ℕ = end + 542 - end in
    let text : List ℕ = c.args.first.now ++ c.args.second.now ++ c.args.third.now ++ 10 ∷ [] in
    let same : c.deref_mut.result.now ≡ ready = c.deref_mut.ensures.value in
    let kept : take end ready ≡ c.args.self.now = c.make_room.ensures.kept ∙ c.self.view_is in
    let within : end ≤ length ready = omega arith in
    let room : end + more ≤ length ready = omega (arith, c.in_ok-make_room.ensures.room) in
    let over : List ℕ → List ℕ = λ was. take end was ++ (new ++ post_of end more was) in
    let written : over c.deref_mut.result.now ≡ over ready = ap over same in
    let wide : length new ≡ more = simp (length-take, length-drop) at c.write_three-count.ensures.len ∙ omega (arith, ap length same, room) in
    let long : length (over c.deref_mut.result.now) ≡ c.make_room.new.bytes.len = ap length written ∙ same_length ready new end more room wide ∙ omega arith in
    ap (take (end + count)) (with_items_is c.make_room.new.bytes (over c.deref_mut.result.now) long ∙ written)
    ∙ front_counts ready new (post_of end more ready) end count within c.write_three-count.ensures.within
    ∙ ap (λ t. take end ready ++ t) c.write_three-count.ensures.front ∙ ap (λ front. front ++ text) kept
