-- How a line spells an edit, piece by piece. A line has no byte 10.
use Rattle.std.specs.Prelude.{◌≡◌, ℕ, ◌<◌, Bool, ◌||◌, ◌==◌, not, List, [], ◌∷◌, ◌++◌, length, Option, Some, None, IsTrue, if◌then◌else◌, codes}
use Rattle.std.specs.List.{list_all}
use Rattle.grammar_text.specs.declared.symbol.Symbol.{Symbol}
use Rattle.grammar_text.specs.declared.symbol.Symbol.TheVariants.{Named, Literal}
use Rattle.grammar_text.specs.declared.edit.Edit.{Edit}
use Rattle.grammar_text.specs.declared.edit.Edit.TheVariants.{AddRule, DropRule, AddToken, DropToken, AddSkip, DropSkip}
use Rattle.grammar_text.specs.Names.{IsName}
use Rattle.grammar_text.specs.Pieces.{is_blank, trimmed}

-- blanks alone, or nothing
abbrev pub AreBlanks : List ℕ → Type 0
AreBlanks bytes = IsTrue (list_all is_blank bytes)

-- what parts two pieces: one or more blanks
abbrev pub IsGap : List ℕ → Type 0
IsGap bytes = AreBlanks bytes × (0 < length bytes)

-- ---- symbols

-- what the letter behind a backslash stands for: a quote, a backslash, a line's end, a tab
abbrev pub unescaped : ℕ → Option ℕ
unescaped letter =
    if letter == 34 then Some 34 else
    if letter == 92 then Some 92 else
    if letter == 110 then Some 10 else
    if letter == 116 then Some 9 else None

-- a byte that stands for itself in a literal: any but the quote and the backslash
abbrev pub is_plain : ℕ → Bool
is_plain byte = not (byte == 34 || byte == 92)

-- the text stands for one byte of a literal
abbrev pub SpellsByte : List ℕ → ℕ → Type 0
SpellsByte [] byte = ⊥
SpellsByte (first ∷ []) byte = IsTrue (is_plain first) × (first ≡ byte)
SpellsByte (first ∷ letter ∷ []) byte = (first ≡ 92) × (unescaped letter ≡ Some byte)
SpellsByte (first ∷ letter ∷ more ∷ others) byte = ⊥

-- the text between a literal's quotes stands for these bytes
abbrev pub SpellsBytes : List ℕ → List ℕ → Type 0
SpellsBytes text [] = text ≡ []
SpellsBytes text (byte ∷ bytes) = (front rest : List ℕ) × SpellsByte front byte × SpellsBytes rest bytes × (text ≡ front ++ rest)

-- the piece is this symbol: a name as it is, or the bytes of a literal, one at least, between quotes
abbrev pub SpellsSymbol : List ℕ → Symbol → Type 0
SpellsSymbol piece (Named name) = (piece ≡ name) × IsName name
SpellsSymbol piece (Literal bytes) = (inner : List ℕ) × SpellsBytes inner bytes × (piece ≡ 34 ∷ inner ++ 34 ∷ []) × (0 < length bytes)

-- the text is these symbols, blanks before each of them and maybe at the end
abbrev pub SpellsSymbols : List ℕ → List Symbol → Type 0
SpellsSymbols text [] = AreBlanks text
SpellsSymbols text (symbol ∷ symbols) = (gap piece rest : List ℕ) × IsGap gap × SpellsSymbol piece symbol × SpellsSymbols rest symbols ×
    (text ≡ gap ++ (piece ++ rest))

-- ---- the forms of an edit

-- the first piece of an edit
abbrev pub keyword_of : Edit → List ℕ
keyword_of (AddRule rule) = codes "rule"
keyword_of (DropRule rule) = codes "drop"
keyword_of (AddToken definition) = codes "token"
keyword_of (DropToken name) = codes "drop"
keyword_of (AddSkip definition) = codes "skip"
keyword_of (DropSkip name) = codes "drop"

-- the name that the edit gives a rule to, or a definition
abbrev pub edited_name : Edit → List ℕ
edited_name (AddRule rule) = rule.left
edited_name (DropRule rule) = rule.left
edited_name (AddToken definition) = definition.name
edited_name (DropToken name) = name
edited_name (AddSkip definition) = definition.name
edited_name (DropSkip name) = name

-- the pieces behind the first, up to the symbols or the expression
abbrev pub edit_words : Edit → List (List ℕ)
edit_words (AddRule rule) = rule.left ∷ codes "::=" ∷ []
edit_words (DropRule rule) = codes "rule" ∷ rule.left ∷ codes "::=" ∷ []
edit_words (AddToken definition) = definition.name ∷ codes "=" ∷ []
edit_words (DropToken name) = codes "token" ∷ name ∷ []
edit_words (AddSkip definition) = definition.name ∷ codes "=" ∷ []
edit_words (DropSkip name) = codes "skip" ∷ name ∷ []

-- the text is an expression up to its very end: it begins behind blanks, with a byte that is none
abbrev pub IsExpressionText : List ℕ → List ℕ → Type 0
IsExpressionText text expression = (gap : List ℕ) × IsGap gap × (0 < length expression) × (trimmed expression ≡ expression) × (text ≡ gap ++ expression)

-- the text is what follows the words
abbrev pub SpellsTail : List ℕ → Edit → Type 0
SpellsTail text (AddRule rule) = SpellsSymbols text rule.right
SpellsTail text (DropRule rule) = SpellsSymbols text rule.right
SpellsTail text (AddToken definition) = IsExpressionText text definition.expression
SpellsTail text (DropToken name) = AreBlanks text
SpellsTail text (AddSkip definition) = IsExpressionText text definition.expression
SpellsTail text (DropSkip name) = AreBlanks text

-- the text begins with these pieces, blanks before each of them, and goes on with the rest
abbrev pub BeginsWith : List ℕ → List (List ℕ) → List ℕ → Type 0
BeginsWith text [] rest = text ≡ rest
BeginsWith text (word ∷ words) rest = (gap behind : List ℕ) × IsGap gap × BeginsWith behind words rest × (text ≡ gap ++ (word ++ behind))

-- the line is this edit
pub record Spells (line : List ℕ) (edit : Edit) : Type 0 where
  pub blanks : List ℕ
  pub behind : List ℕ
  pub rest : List ℕ
  pub begins : line ≡ blanks ++ (keyword_of edit ++ behind)
  pub blank : AreBlanks blanks
  pub words : BeginsWith behind (edit_words edit) rest
  pub named : IsName (edited_name edit)
  pub tail : SpellsTail rest edit
