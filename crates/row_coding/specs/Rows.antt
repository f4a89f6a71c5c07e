-- Keys of both kinds, rows, and the kind that a row has.
use Rattle.std.specs.Prelude.{ℕ, List, ◌∷◌, ◌++◌, length}
use Rattle.item_sets.specs.declared.item.Item.{Item}
use Rattle.isg_states.specs.declared.scan_key.ScanKey.{ScanKey}
use Rattle.row_coding.specs.declared.kinds.Kind.{Kind}
use Rattle.row_coding.specs.declared.kinds.Kind.TheVariants.{Items, Scan}
use Rattle.row_coding.specs.Words.{kernel_words, scan_key_words}
use Rattle.row_coding.specs.Conditions.{FitItems, FitsScanKey}

-- a key of either kind: a kernel, or a state of the scanner
pub data Key : Type 0 where
  kernel : List Item → Key
  scan : ScanKey → Key

abbrev pub key_words : Key → List ℕ
key_words (kernel items) = kernel_words items
key_words (scan key) = scan_key_words key

-- each dot, or each index, has room in its word
abbrev pub FitsKey : Key → Type 0
FitsKey (kernel items) = FitItems items
FitsKey (scan key) = FitsScanKey key

abbrev pub kind_of_key : Key → Kind
kind_of_key (kernel items) = Items
kind_of_key (scan key) = Scan

-- the lengths of key and payload, the key, and the payload
abbrev pub row_words : Key → List ℕ → List ℕ
row_words key payload = length (key_words key) ∷ length payload ∷ (key_words key ++ payload)
