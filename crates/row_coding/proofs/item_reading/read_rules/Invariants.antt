use Rattle.std.proofs.Common.{◌≡◌, length, map, take, vec_capacity}
use Rattle.row_coding.specs.Reading.{rule_id}
use Rattle.row_coding.proofs.item_reading.read_rules.Given as goal

abbrev pub invariant-loop-word : goal.invariant-loop-word
invariant-loop-word l = (l.rules.items ≡ map rule_id (take l.word-index l.words)) × (vec_capacity l.rules ≡ length l.words)
