use Rattle.std.proofs.Common.{◌≡◌, length, flat_map, take}
use Rattle.row_coding.specs.Words.{range_words}
use Rattle.row_coding.proofs.scan_writing.ranges_len.Given as goal

abbrev pub invariant-loop-range : goal.invariant-loop-range
invariant-loop-range l = l.len ≡ length (flat_map range_words (take l.range-index l.ranges))
