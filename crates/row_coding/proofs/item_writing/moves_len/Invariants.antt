use Rattle.std.proofs.Common.{◌≡◌, length, flat_map, take}
use Rattle.row_coding.specs.Words.{move_words}
use Rattle.row_coding.proofs.item_writing.moves_len.Given as goal

abbrev pub invariant-loop-entry : goal.invariant-loop-entry
invariant-loop-entry l = l.len ≡ length (flat_map move_words (take l.entry-index l.moves))
