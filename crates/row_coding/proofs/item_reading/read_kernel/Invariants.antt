use Rattle.std.proofs.Common.{◌≡◌, map, take}
use Rattle.row_coding.specs.Reading.{item_of}
use Rattle.row_coding.proofs.item_reading.read_kernel.Given as goal

abbrev pub invariant-loop-word : goal.invariant-loop-word
invariant-loop-word l = l.items.items ≡ map item_of (take l.word-index l.words)
