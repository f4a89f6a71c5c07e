use Rattle.std.proofs.Common.{◌≡◌, ◌++◌, flat_map, take, vec_capacity}
use Rattle.row_coding.specs.Words.{move_words}
use Rattle.row_coding.proofs.item_writing.push_moves.Given as goal

abbrev pub invariant-loop-entry : goal.invariant-loop-entry
invariant-loop-entry l =
    (l.words.items ≡ l.initial.words.items ++ flat_map move_words (take l.entry-index l.moves)) × (vec_capacity l.words ≡ vec_capacity l.initial.words)
