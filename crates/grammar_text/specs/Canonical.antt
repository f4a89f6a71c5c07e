-- The canonical text of an edit, and which edits may be written.
use Rattle.std.specs.Prelude.{ℕ, ◌==◌, List, [], ◌∷◌, ◌++◌, if◌then◌else◌, codes}
use Rattle.std.specs.List.{flat_map}
use Rattle.grammar_text.specs.declared.symbol.Symbol.{Symbol}
use Rattle.grammar_text.specs.declared.symbol.Symbol.TheVariants.{Named, Literal}
use Rattle.grammar_text.specs.declared.edit.RuleText.{RuleText}
use Rattle.grammar_text.specs.declared.edit.DefText.{DefText}
use Rattle.grammar_text.specs.declared.edit.Edit.{Edit}
use Rattle.grammar_text.specs.declared.edit.Edit.TheVariants.{AddRule, DropRule, AddToken, DropToken, AddSkip, DropSkip}

-- a byte of a literal: a quote, a backslash, a line's end and a tab by their escapes, any other as itself
abbrev pub escaped : ℕ → List ℕ
escaped byte =
    if byte == 34 then 92 ∷ 34 ∷ [] else
    if byte == 92 then 92 ∷ 92 ∷ [] else
    if byte == 10 then 92 ∷ 110 ∷ [] else
    if byte == 9 then 92 ∷ 116 ∷ [] else byte ∷ []

abbrev pub symbol_text : Symbol → List ℕ
symbol_text (Named name) = name
symbol_text (Literal bytes) = 34 ∷ flat_map escaped bytes ++ 34 ∷ []

-- one space, and the piece
abbrev pub spaced : List ℕ → List ℕ
spaced piece = 32 ∷ piece

-- each symbol behind one space
abbrev pub symbols_text : List Symbol → List ℕ
symbols_text [] = []
symbols_text (symbol ∷ symbols) = spaced (symbol_text symbol) ++ symbols_text symbols

-- a name, `::=` and the symbols
abbrev pub rule_text : RuleText → List ℕ
rule_text rule = spaced rule.left ++ spaced (codes "::=") ++ symbols_text rule.right

-- a name, `=` and the expression
abbrev pub definition_text : DefText → List ℕ
definition_text definition = spaced definition.name ++ spaced (codes "=") ++ spaced definition.expression

-- the one text that an edit is written as
unfoldable pub canonical : Edit → List ℕ
canonical (AddRule rule) = codes "rule" ++ rule_text rule
canonical (DropRule rule) = codes "drop" ++ spaced (codes "rule") ++ rule_text rule
canonical (AddToken definition) = codes "token" ++ definition_text definition
canonical (DropToken name) = codes "drop" ++ spaced (codes "token") ++ spaced name
canonical (AddSkip definition) = codes "skip" ++ definition_text definition
canonical (DropSkip name) = codes "drop" ++ spaced (codes "skip") ++ spaced name
