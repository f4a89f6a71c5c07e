-- The words of keys and payloads.
use Rattle.std.specs.Prelude.{ℕ, ◌+◌, ◌*◌, List, [], ◌∷◌, ◌++◌, length, map, flat_map}
use Rattle.forest.specs.declared.symbols.SymbolId.{SymbolId}
use Rattle.item_sets.specs.declared.item.Item.{Item}
use Rattle.item_sets.specs.declared.expansion.Expansion.{Expansion}
use Rattle.isg_states.specs.declared.mark.Mark.{Mark}
use Rattle.isg_states.specs.declared.scan_key.ScanKey.{ScanKey}
use Rattle.isg_states.specs.declared.scan_key.ScanKey.TheVariants.{Start, Set}
use Rattle.isg_states.specs.declared.ranges.ScanExpansion.{ScanExpansion}
use Rattle.isg_states.specs.Marks.{mark_number}
use Rattle.isg_states.specs.Expansion.{Range}

-- rule and dot in one word
abbrev pub item_word : Item → ℕ
item_word item = item.rule.0 * 32 + item.dot

-- the key of a kernel
abbrev pub kernel_words : List Item → List ℕ
kernel_words items = 1 ∷ map item_word items

-- the key of a state of the scanner
abbrev pub scan_key_words : ScanKey → List ℕ
scan_key_words Start = 2 ∷ []
scan_key_words (Set marks) = 3 ∷ map mark_number marks

-- a symbol, and the items of the kernel behind it, with their number
abbrev pub move_words : SymbolId × List Item → List ℕ
move_words move = move.0.0 ∷ length move.1 ∷ map item_word move.1

-- the numbers of moves and reductions, the moves, and the numbers of the reductions' rules
abbrev pub item_payload_words : Expansion → List ℕ
item_payload_words expansion =
    length expansion.moves ∷ length expansion.reductions ∷ (flat_map move_words expansion.moves ++ map (λ rule. rule.0) expansion.reductions)

-- the marks of a key: the start has none
abbrev pub marks_in : ScanKey → List Mark
marks_in Start = []
marks_in (Set marks) = marks

-- both ends in one word, and the marks of the key, with their number
abbrev pub range_words : Range → List ℕ
range_words range = (range.0 * 256 + range.1) ∷ length (marks_in range.2) ∷ map mark_number (marks_in range.2)

-- the number of ranges, and the ranges
abbrev pub scan_payload_words : ScanExpansion → List ℕ
scan_payload_words expansion = length expansion.ranges ∷ flat_map range_words expansion.ranges
