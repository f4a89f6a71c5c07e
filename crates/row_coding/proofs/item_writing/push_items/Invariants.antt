use Rattle.std.proofs.Common.{◌≡◌, ◌++◌, map, take, vec_capacity}
use Rattle.row_coding.specs.Words.{item_word}
use Rattle.row_coding.proofs.item_writing.push_items.Given as goal

abbrev pub invariant-loop-item : goal.invariant-loop-item
invariant-loop-item l =
    (l.words.items ≡ l.initial.words.items ++ map item_word (take l.item-index l.items)) × (vec_capacity l.words ≡ vec_capacity l.initial.words)
