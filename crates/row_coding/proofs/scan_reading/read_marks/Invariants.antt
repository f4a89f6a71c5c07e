use Rattle.std.proofs.Common.{◌≡◌, map, take}
use Rattle.row_coding.specs.Reading.{mark_of}
use Rattle.row_coding.proofs.scan_reading.read_marks.Given as goal

abbrev pub invariant-loop-word : goal.invariant-loop-word
invariant-loop-word l = l.marks.items ≡ map mark_of (take l.word-index l.words)
