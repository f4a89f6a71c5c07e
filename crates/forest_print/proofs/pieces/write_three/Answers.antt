use Rattle.std.proofs.Common.{◌≡◌, ℕ, ◌+◌, List, [], ◌∷◌, ◌++◌, take, slice_index_or, ap, ◌∙◌, arith}
use Rattle.forest_print.proofs.Rooms.{three_rooms}
use Rattle.forest_print.proofs.pieces.write_three.Goals as goal

pub returns-clause-front : goal.returns-clause-front
returns-clause-front c =
    let r1 : List ℕ = c.first.inside.room in
    let r2 : List ℕ = c.second.inside.room in
    let r3 : List ℕ = c.third.inside.room in
    let s1 : ℕ = c.from-second_at.result in
    let s2 : ℕ = c.from.result in
    let s3 : ℕ = c.from-2.result in
    let first : take s1 r1 ≡ c.args.first.now = ap (λ n. take n r1) c.from-second_at.ensures ∙ c.first.view_is in
    let second : take s2 r2 ≡ c.args.second.now = ap (λ n. take n r2) c.from.ensures ∙ c.second.view_is in
    let third : take s3 r3 ≡ c.args.third.now = ap (λ n. take n r3) c.from-2.ensures ∙ c.third.view_is in
    let is : slice_index_or r3 s3 10 ≡ 10 = c.third.invariant.1 s3 (omega arith) in
    three_rooms c.args.bytes.now c.write_at.new.bytes c.write_at-2.new.bytes c.write_at-3.new.bytes r1 r2 r3 s1 s2 s3
    (c.write_at.ensures.front s1 (omega arith)) (c.write_at-2.ensures.front s2 (omega arith)) (c.write_at-3.ensures.front (s3 + 1) (omega arith))
    (omega arith) is
    ∙ ap (λ t. t ++ take s2 r2 ++ take s3 r3 ++ 10 ∷ []) first ∙ ap (λ t. c.args.first.now ++ t ++ take s3 r3 ++ 10 ∷ []) second
    ∙ ap (λ t. c.args.first.now ++ c.args.second.now ++ t ++ 10 ∷ []) third
