-- What the parts of a line stand for.
use Rattle.std.specs.Prelude.{◌≡◌, ℕ, ◌<◌, List, [], ◌∷◌, ◌++◌, length, slice_index_or, codes, decimal}
use Rattle.std.specs.List.{flat_map}
use Rattle.grammar_text.specs.Canonical.{escaped}
use Rattle.forest_print.specs.Lines.{cut_text}
use Rattle.forest_print.specs.declared.line_parts.Part.{Part}
use Rattle.forest_print.specs.declared.line_parts.Part.TheVariants.{Bytes, Number}

abbrev pub part_text : Part → List ℕ
part_text (Bytes bytes) = bytes.now
part_text (Number number) = decimal number

-- a literal with its quotes
abbrev pub literal_text : List ℕ → List ℕ
literal_text bytes = 34 ∷ flat_map escaped bytes ++ 34 ∷ []

-- how the line for a split begins: the rule with the first of its cuts
abbrev pub head_text : ℕ → ℕ → List ℕ
head_text rule first = codes "rule " ++ decimal rule ++ codes " at" ++ cut_text first

-- each piece is the text of its place
abbrev pub ArePlaces : List (List ℕ) → Type 0
ArePlaces pieces = (place : ℕ) (d : List ℕ) → place < length pieces → slice_index_or pieces place d ≡ cut_text place
