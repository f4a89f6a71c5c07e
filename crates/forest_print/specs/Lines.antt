-- The lines of forests and tokens. Numbers are decimals, and every line ends with byte 10.
use Rattle.std.specs.Prelude.{ℕ, List, ◌++◌, codes, decimal}
use Rattle.std.specs.List.{flat_map}
use Rattle.grammar_text.specs.declared.symbol.Symbol.{Symbol}
use Rattle.grammar_text.specs.Canonical.{symbol_text}
use Rattle.forest.specs.declared.symbols.SymbolId.{SymbolId}
use Rattle.forest.specs.declared.symbols.Token.{Token}
use Rattle.forest.specs.declared.nodes.Split.{Split}
use Rattle.forest.specs.declared.nodes.Node.{Node}
use Rattle.edit_log.specs.Symbols.{symbol_at, symbol_bytes}

-- ---- forests

abbrev pub cut_text : ℕ → List ℕ
cut_text cut = codes " " ++ decimal cut

-- a rule with its cuts
unfoldable pub split_line : Split → List ℕ
split_line split = codes "rule " ++ decimal split.rule.0 ++ codes " at" ++ flat_map cut_text split.cuts ++ codes "\n"

-- a symbol of this name with the places in the tokens where it begins and ends
unfoldable pub span_line : List ℕ → ℕ → ℕ → List ℕ
span_line name from to = codes "node " ++ name ++ codes " " ++ decimal from ++ codes " " ++ decimal to ++ codes "\n"

-- a node whose symbol has this name, and then its splits
unfoldable pub node_text : List ℕ → Node → List ℕ
node_text name node = span_line name node.from node.to ++ flat_map split_line node.splits

-- the bytes of the symbol with this number
abbrev pub name_of : List Symbol → SymbolId → List ℕ
name_of symbols number = symbol_bytes (symbol_at symbols number)

-- each node, where name tells the bytes of a symbol
abbrev pub nodes_text : (SymbolId → List ℕ) → List Node → List ℕ
nodes_text name nodes = flat_map (λ node. node_text (name node.symbol) node) nodes

-- ---- tokens

-- a token of this symbol, which is written as in an edit, with the offsets of its first byte and of the byte after its last
unfoldable pub token_line : Symbol → Token → List ℕ
token_line symbol token = codes "token " ++ symbol_text symbol ++ codes " " ++ decimal token.from ++ codes " " ++ decimal token.to ++ codes "\n"

-- each token
abbrev pub tokens_text : List Symbol → List Token → List ℕ
tokens_text symbols tokens = flat_map (λ token. token_line (symbol_at symbols token.kind) token) tokens
