use Rattle.std.proofs.Common.{◌≡◌, ◌++◌, flat_map, take, vec_capacity}
use Rattle.row_coding.specs.Words.{range_words}
use Rattle.row_coding.proofs.scan_writing.push_ranges.Given as goal

abbrev pub invariant-loop-range : goal.invariant-loop-range
invariant-loop-range l =
    (l.words.items ≡ l.initial.words.items ++ flat_map range_words (take l.range-index l.ranges)) × (vec_capacity l.words ≡ vec_capacity l.initial.words)
