use Rattle.std.proofs.Common.{◌≡◌, List, ℕ, ◌++◌, length, flat_map, take, drop, vec_len, vec_capacity}
use Rattle.row_coding.specs.Words.{move_words}
use Rattle.row_coding.specs.Reading.{Move, BeginWithMoves}
use Rattle.row_coding.proofs.item_reading.read_moves.Given as goal

abbrev pub invariant-loop-i : goal.invariant-loop-i
invariant-loop-i l =
    (vec_len l.moves ≡ l._i) × (vec_capacity l.moves ≡ l.count)
    × ((moves : List Move) (rest : List ℕ) → BeginWithMoves l.fn.words moves rest → length moves ≡ l.count
    → (l.moves.items ≡ take l._i moves) × (l.rest ≡ flat_map move_words (drop l._i moves) ++ rest))
