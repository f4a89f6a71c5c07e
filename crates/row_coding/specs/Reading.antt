-- What the readers' inner steps speak of.
use Rattle.std.specs.Prelude.{◌≡◌, ◌==◌, ℕ, ◌+◌, ◌<◌, ◌≤◌, ◌^◌, ◌/◌, ◌%◌, List, ◌++◌, length, slice_index, take, drop, map, flat_map, All, if◌then◌else◌}
use Rattle.std.specs.List.Sorted.{IsStrictlySortedBy}
use Rattle.forest.specs.declared.symbols.SymbolId.{SymbolId}
use Rattle.forest.specs.declared.rules.RuleId.{RuleId}
use Rattle.edit_log.specs.declared.definitions.DefId.{DefId}
use Rattle.edit_log.specs.declared.definitions.DefId.TheVariants.{Literal as literal, Named as named}
use Rattle.item_sets.specs.declared.item.Item.{Item}
use Rattle.item_sets.specs.Orders.{item_cmp}
use Rattle.isg_states.specs.declared.mark.Mark.{Mark}
use Rattle.isg_states.specs.declared.scan_key.ScanKey.TheVariants.{Set}
use Rattle.isg_states.specs.Marks.{AreAscending}
use Rattle.isg_states.specs.Expansion.{Range}
use Rattle.row_coding.specs.Words.{move_words, range_words}
use Rattle.row_coding.specs.Conditions.{IsTypedItem, FitsRange, AreTypedMarks}

-- a first word, the number of the words in the piece, and these
pub record IsCounted (words : List ℕ) : Type 0 where
  pub some : 1 < length words
  pub whole : slice_index words 1 + 2 ≤ length words

-- the words in the piece that these begin with
abbrev pub counted_words : List ℕ → List ℕ
counted_words words = take (slice_index words 1) (drop 2 words)

-- what follows that piece
abbrev pub rest_of : List ℕ → List ℕ
rest_of words = drop (slice_index words 1 + 2) words

abbrev pub symbol_of : ℕ → SymbolId
symbol_of word = record { 0 = word }

abbrev pub rule_id : ℕ → RuleId
rule_id word = record { 0 = word }

-- the item in a word
abbrev pub item_of : ℕ → Item
item_of word = record { rule = rule_id (word / 32); dot = word % 32 }

-- the words are items of rules of 32 bits, and the items ascend
pub record AreItemWords (words : List ℕ) : Type 0 where
  pub rules : All (λ word. word / 32 < 2 ^ 32) words
  pub ascending : IsStrictlySortedBy item_cmp (map item_of words)

-- a symbol, and the kernel behind it
abbrev pub Move : Type 0
Move = SymbolId × List Item

-- the words begin with the piece of a move
pub record BeginWithMove (words : List ℕ) : Type 0 where
  pub piece : IsCounted words
  pub symbol : slice_index words 0 < 2 ^ 32
  pub items : AreItemWords (counted_words words)

-- the move can be read from its words
pub record IsReadable (move : Move) : Type 0 where
  pub symbol : move.0.0 < 2 ^ 32
  pub rules : All IsTypedItem move.1
  pub dots : All (λ item. item.dot < 32) move.1
  pub ascending : IsStrictlySortedBy item_cmp move.1

-- the words of the moves stand before the rest
pub record BeginWithMoves (words : List ℕ) (moves : List Move) (rest : List ℕ) : Type 0 where
  pub readable : All IsReadable moves
  pub are : words ≡ flat_map move_words moves ++ rest

-- the definition with this number
abbrev pub definition_of_number : ℕ → DefId
definition_of_number number = if number % 2 == 0 then literal (symbol_of (number / 2)) else named (rule_id (number / 2))

-- the mark in a word
abbrev pub mark_of : ℕ → Mark
mark_of word = record { def = definition_of_number (word / 256); index = word % 256 }

-- the range of two bytes in one word, and of the words of marks
abbrev pub range_of : ℕ → List ℕ → Range
range_of ends marks = (ends / 256, ends % 256, Set (map mark_of marks))

-- the words are marks of numbers of 32 bits, and the marks ascend
pub record AreMarkWords (words : List ℕ) : Type 0 where
  pub numbers : All (λ word. word / 512 < 2 ^ 32) words
  pub ascending : AreAscending (map mark_of words)

-- the words begin with the piece of a range
pub record BeginWithRange (words : List ℕ) : Type 0 where
  pub piece : IsCounted words
  pub ends : slice_index words 0 < 2 ^ 16
  pub marks : AreMarkWords (counted_words words)

-- the range can be read from its words
pub record IsReadableRange (range : Range) : Type 0 where
  pub fits : FitsRange range
  pub typed : AreTypedMarks fits.marks

-- the words of the ranges stand before the rest
pub record BeginWithRanges (words : List ℕ) (ranges : List Range) (rest : List ℕ) : Type 0 where
  pub readable : All IsReadableRange ranges
  pub are : words ≡ flat_map range_words ranges ++ rest
