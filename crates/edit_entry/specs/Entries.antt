-- How an edit stands in the log.
use Rattle.std.specs.Prelude.{ℕ, zero, suc, List, [], ◌∷◌, length, take, drop, slice_index}
use Rattle.std.specs.List.{flat_map}
use Rattle.std.specs.Int.{w64, to_le_bytes, from_le_bytes}
use Rattle.grammar_text.specs.declared.edit.Edit.{Edit}
use Rattle.grammar_text.specs.Canonical.{canonical}

-- so many words of eight bytes each, the first byte lowest, and zeros behind the last
unfoldable pub packed_words : ℕ → List ℕ → List ℕ
packed_words zero bytes = []
packed_words (suc count) bytes = from_le_bytes w64 bytes ∷ packed_words count (drop 8 bytes)

-- the length of a text, and its bytes
unfoldable pub words_for : List ℕ → List ℕ
words_for text = length text ∷ packed_words 31 text

-- the words of an edit
abbrev pub entry_of : Edit → List ℕ
entry_of edit = words_for (canonical edit)

-- ---- what stands in words

-- eight bytes of each word, the lowest first
abbrev pub bytes_of : List ℕ → List ℕ
bytes_of words = flat_map (to_le_bytes w64) words

abbrev pub length_in : List ℕ → ℕ
length_in words = slice_index words 0

-- as many bytes behind the first word as that word says
abbrev pub text_in : List ℕ → List ℕ
text_in words = take (length_in words) (bytes_of (drop 1 words))

-- the bytes behind the text
abbrev pub padding_in : List ℕ → List ℕ
padding_in words = drop (length_in words) (bytes_of (drop 1 words))
