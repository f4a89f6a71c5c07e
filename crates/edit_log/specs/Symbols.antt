-- The numbers of symbols. A symbol's number is its place in the list of all symbols, in the order of their first appearance.
use Rattle.std.specs.Prelude.{ℕ, List, [], ◌∷◌, ◌++◌, length, map, nat_lt, if◌then◌else◌}
use Rattle.std.specs.List.{position_or_len, slice_index_or}
use Rattle.grammar_text.specs.declared.symbol.Symbol.{Symbol}
use Rattle.grammar_text.specs.declared.symbol.Symbol.TheVariants.{Named, Literal}
use Rattle.grammar_text.specs.declared.edit.RuleText.{RuleText}
use Rattle.grammar_text.specs.declared.edit.Edit.{Edit}
use Rattle.grammar_text.specs.declared.edit.Edit.TheVariants.{AddRule, DropRule, AddToken, DropToken, AddSkip, DropSkip}
use Rattle.grammar_text.specs.Sameness.{spelling_eq}
use Rattle.forest.specs.declared.symbols.SymbolId.{SymbolId}
use Rattle.forest.specs.declared.rules.Rule.{Rule}

-- the place of the symbol in the list, or how long the list is
abbrev pub place_of : List Symbol → Symbol → ℕ
place_of symbols symbol = position_or_len (spelling_eq symbol) symbols

abbrev pub number_of : List Symbol → Symbol → SymbolId
number_of symbols symbol = record { 0 = place_of symbols symbol }

-- the symbol with this number, where there is one
abbrev pub symbol_at : List Symbol → SymbolId → Symbol
symbol_at symbols number = slice_index_or symbols number.0 (Named [])

-- a symbol that is not there yet goes last
abbrev pub with_symbol : List Symbol → Symbol → List Symbol
with_symbol symbols symbol = if nat_lt (place_of symbols symbol) (length symbols) then symbols else symbols ++ symbol ∷ []

-- one after the other
abbrev pub with_symbols : List Symbol → List Symbol → List Symbol
with_symbols symbols [] = symbols
with_symbols symbols (first ∷ others) = with_symbols (with_symbol symbols first) others

-- the symbols of an edit from left to right: the left side of a rule and then its right side, or the name of a token or a skip
abbrev pub symbols_of : Edit → List Symbol
symbols_of (AddRule r) = Named r.left ∷ r.right
symbols_of (DropRule r) = Named r.left ∷ r.right
symbols_of (AddToken d) = Named d.name ∷ []
symbols_of (DropToken name) = Named name ∷ []
symbols_of (AddSkip d) = Named d.name ∷ []
symbols_of (DropSkip name) = Named name ∷ []

-- the rule with this number, and its symbols by theirs
abbrev pub numbered : List Symbol → ℕ → RuleText → Rule
numbered symbols number r = record { number = record { 0 = number }; left = number_of symbols (Named r.left); right = map (number_of symbols) r.right }

-- the bytes of a symbol
abbrev pub symbol_bytes : Symbol → List ℕ
symbol_bytes (Named name) = name
symbol_bytes (Literal bytes) = bytes

-- the rule as it is written
abbrev pub text_of : List Symbol → Rule → RuleText
text_of symbols r = record { left = symbol_bytes (symbol_at symbols r.left); right = map (symbol_at symbols) r.right }
