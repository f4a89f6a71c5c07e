use Rattle.std.proofs.Common.{◌≡◌, List, ℕ, ◌++◌, length, flat_map, take, drop, vec_len, vec_capacity}
use Rattle.isg_states.specs.Expansion.{Range}
use Rattle.row_coding.specs.Words.{range_words}
use Rattle.row_coding.specs.Reading.{BeginWithRanges}
use Rattle.row_coding.proofs.scan_reading.read_ranges.Given as goal

abbrev pub invariant-loop-i : goal.invariant-loop-i
invariant-loop-i l =
    (vec_len l.ranges ≡ l._i) × (vec_capacity l.ranges ≡ l.count)
    × ((ranges : List Range) (rest : List ℕ) → BeginWithRanges l.fn.words ranges rest → length ranges ≡ l.count
    → (l.ranges.items ≡ take l._i ranges) × (l.rest ≡ flat_map range_words (drop l._i ranges) ++ rest))
