-- The canonical text of an edit that a line spells is a line that spells it.
use Rattle.std.proofs.Common.{◌≡◌, ℕ, suc, ◌+◌, ◌*◌, ◌<◌, ◌≤◌, ◌^◌, Bool, true, false, cond, eqb, not, List, [], ◌∷◌, ◌++◌, length, refl, sym, ap, subst, ◌∙◌}
use Rattle.std.proofs.Common.{append_assoc, length-append, arith}
use Rattle.std.specs.Prelude.{codes, Some}
use Rattle.std.specs.List.{flat_map, list_all}
use Rattle.std.proofs.lemmas.Bool.{and_parts, and_from, eqb-true}
use Rattle.std.proofs.lemmas.List.{append-nil}
use Rattle.std.proofs.lemmas.List.Folds.{list_all-append}
use Rattle.grammar_text.specs.declared.symbol.Symbol.{Symbol}
use Rattle.grammar_text.specs.declared.symbol.Symbol.TheVariants.{Named, Literal}
use Rattle.grammar_text.specs.declared.edit.RuleText.{RuleText}
use Rattle.grammar_text.specs.declared.edit.DefText.{DefText}
use Rattle.grammar_text.specs.declared.edit.Edit.{Edit}
use Rattle.grammar_text.specs.declared.edit.Edit.TheVariants.{AddRule, DropRule, AddToken, DropToken, AddSkip, DropSkip}
use Rattle.grammar_text.specs.declared.limits.TheConstants.{LINE_LIMIT}
use Rattle.grammar_text.specs.Names.{IsName}
use Rattle.grammar_text.specs.Pieces.{IsLine, AreBytes}
use Rattle.grammar_text.specs.Spelling.{keyword_of, edit_words, SpellsByte, SpellsBytes, SpellsSymbol, SpellsSymbols, IsExpressionText, BeginsWith, Spells}
use Rattle.grammar_text.specs.Canonical.{escaped, symbol_text, spaced, symbols_text, rule_text, definition_text, canonical}
use Rattle.grammar_text.specs.Limits.{the_limits, RightFits, PartsFit, IsWithinLimits, IsSound}
use Rattle.grammar_text.proofs.NameBytes.{name_facts, name-line}
use Rattle.grammar_text.proofs.SymbolLaws.{symbols_len}
use Rattle.grammar_text.proofs.ByteTexts.{canonical_bytes}

-- ---- literals

escaped-go : (quote slash line tab : Bool) (byte : ℕ) → eqb byte 34 ≡ quote → eqb byte 92 ≡ slash → eqb byte 10 ≡ line → eqb byte 9 ≡ tab
    → SpellsByte (cond quote (92 ∷ 34 ∷ []) (cond slash (92 ∷ 92 ∷ []) (cond line (92 ∷ 110 ∷ []) (cond tab (92 ∷ 116 ∷ []) (byte ∷ []))))) byte
escaped-go true slash line tab byte q s l t = (refl, ap (λ (b : ℕ). Some b) (sym (eqb-true byte 34 q)))
escaped-go false true line tab byte q s l t = (refl, ap (λ (b : ℕ). Some b) (sym (eqb-true byte 92 s)))
escaped-go false false true tab byte q s l t = (refl, ap (λ (b : ℕ). Some b) (sym (eqb-true byte 10 l)))
escaped-go false false false true byte q s l t = (refl, ap (λ (b : ℕ). Some b) (sym (eqb-true byte 9 t)))
escaped-go false false false false byte q s l t = (rw (q, s) refl, refl)

escaped_spells : (bytes : List ℕ) → SpellsBytes (flat_map escaped bytes) bytes
escaped_spells [] = refl
escaped_spells (byte ∷ bytes) = (
  escaped byte,
  flat_map escaped bytes,
  escaped-go (eqb byte 34) (eqb byte 92) (eqb byte 10) (eqb byte 9) byte refl refl refl refl,
  escaped_spells bytes,
  refl,
)

symbol_spells : (piece : List ℕ) (symbol : Symbol) → SpellsSymbol piece symbol → SpellsSymbol (symbol_text symbol) symbol
symbol_spells piece (Named name) spelled = (refl, spelled.1)
symbol_spells piece (Literal bytes) spelled = (flat_map escaped bytes, escaped_spells bytes, refl, spelled.3)

-- one space
abbrev space : List ℕ
space = 32 ∷ []

symbols_spell : (text : List ℕ) (symbols : List Symbol) → SpellsSymbols text symbols → SpellsSymbols (symbols_text symbols) symbols
symbols_spell text [] spelled = refl
symbols_spell text (symbol ∷ symbols) spelled = (
  space,
  symbol_text symbol,
  symbols_text symbols,
  (refl, omega arith),
  symbol_spells spelled.1 symbol spelled.4,
  symbols_spell spelled.2 symbols spelled.5,
  refl,
)

-- ---- rules and definitions

rule_begins : (rule : RuleText) → BeginsWith (rule_text rule) (rule.left ∷ codes "::=" ∷ []) (symbols_text rule.right)
rule_begins rule = (
  space,
  spaced (codes "::=") ++ symbols_text rule.right,
  (refl, omega arith),
  (space, symbols_text rule.right, (refl, omega arith), refl, refl),
  append_assoc (spaced rule.left) (spaced (codes "::=")) (symbols_text rule.right),
)

definition_begins : (definition : DefText) → BeginsWith (definition_text definition) (definition.name ∷ codes "=" ∷ []) (spaced definition.expression)
definition_begins definition = (
  space,
  spaced (codes "=") ++ spaced definition.expression,
  (refl, omega arith),
  (space, spaced definition.expression, (refl, omega arith), refl, refl),
  append_assoc (spaced definition.name) (spaced (codes "=")) (spaced definition.expression),
)

expression_spells : (text expression : List ℕ) → IsExpressionText text expression → IsExpressionText (spaced expression) expression
expression_spells text expression spelled = (space, (refl, omega arith), spelled.2, spelled.3, refl)

-- a word, one space before it, and what follows
next_word : (word text : List ℕ) (words : List (List ℕ)) (rest : List ℕ) → BeginsWith text words rest → BeginsWith (spaced word ++ text) (word ∷ words) rest
next_word word text words rest begins = (space, text, (refl, omega arith), begins, refl)

last_begins : (name : List ℕ) → BeginsWith (spaced name) (name ∷ []) []
last_begins name = (space, [], (refl, omega arith), refl, sym (append-nil (spaced name)))

pub canonical_spells : (line : List ℕ) (edit : Edit) → Spells line edit → Spells (canonical edit) edit
unfolding canonical
canonical_spells line (AddRule rule) spelled = record {
  blanks = [];
  behind = rule_text rule;
  rest = symbols_text rule.right;
  begins = refl;
  blank = refl;
  words = rule_begins rule;
  named = spelled.named;
  tail = symbols_spell spelled.rest rule.right spelled.tail;
}
canonical_spells line (DropRule rule) spelled = record {
  blanks = [];
  behind = spaced (codes "rule") ++ rule_text rule;
  rest = symbols_text rule.right;
  begins = refl;
  blank = refl;
  words = next_word (codes "rule") (rule_text rule) (rule.left ∷ codes "::=" ∷ []) (symbols_text rule.right) (rule_begins rule);
  named = spelled.named;
  tail = symbols_spell spelled.rest rule.right spelled.tail;
}
canonical_spells line (AddToken definition) spelled = record {
  blanks = [];
  behind = definition_text definition;
  rest = spaced definition.expression;
  begins = refl;
  blank = refl;
  words = definition_begins definition;
  named = spelled.named;
  tail = expression_spells spelled.rest definition.expression spelled.tail;
}
canonical_spells line (DropToken name) spelled = record {
  blanks = [];
  behind = spaced (codes "token") ++ spaced name;
  rest = [];
  begins = refl;
  blank = refl;
  words = next_word (codes "token") (spaced name) (name ∷ []) [] (last_begins name);
  named = spelled.named;
  tail = refl;
}
canonical_spells line (AddSkip definition) spelled = record {
  blanks = [];
  behind = definition_text definition;
  rest = spaced definition.expression;
  begins = refl;
  blank = refl;
  words = definition_begins definition;
  named = spelled.named;
  tail = expression_spells spelled.rest definition.expression spelled.tail;
}
canonical_spells line (DropSkip name) spelled = record {
  blanks = [];
  behind = spaced (codes "skip") ++ spaced name;
  rest = [];
  begins = refl;
  blank = refl;
  words = next_word (codes "skip") (spaced name) (name ∷ []) [] (last_begins name);
  named = spelled.named;
  tail = refl;
}

-- ---- no byte 10

joined : (a b : List ℕ) → IsLine a → IsLine b → IsLine (a ++ b)
joined a b line_a line_b = list_all-append (λ byte. not (eqb byte 10)) a b ∙ and_from _ _ line_a line_b

parted : (a b : List ℕ) → IsLine (a ++ b) → IsLine a × IsLine b
parted a b line = and_parts (list_all (λ byte. not (eqb byte 10)) a) (list_all (λ byte. not (eqb byte 10)) b)
    (sym (list_all-append (λ byte. not (eqb byte 10)) a b) ∙ line)

escaped-line-go : (quote slash line tab : Bool) (byte : ℕ) → eqb byte 10 ≡ line
    → IsLine (cond quote (92 ∷ 34 ∷ []) (cond slash (92 ∷ 92 ∷ []) (cond line (92 ∷ 110 ∷ []) (cond tab (92 ∷ 116 ∷ []) (byte ∷ [])))))
escaped-line-go true slash line tab byte l = refl
escaped-line-go false true line tab byte l = refl
escaped-line-go false false true tab byte l = refl
escaped-line-go false false false true byte l = refl
escaped-line-go false false false false byte l = rw l refl

escaped_line : (bytes : List ℕ) → IsLine (flat_map escaped bytes)
escaped_line [] = refl
escaped_line (byte ∷ bytes) = joined (escaped byte) (flat_map escaped bytes) (escaped-line-go (eqb byte 34) (eqb byte 92) (eqb byte 10) (eqb byte 9) byte refl)
    (escaped_line bytes)

symbol_line : (piece : List ℕ) (symbol : Symbol) → SpellsSymbol piece symbol → IsLine (symbol_text symbol)
symbol_line piece (Named name) spelled = name-line name spelled.1
symbol_line piece (Literal bytes) spelled = joined (flat_map escaped bytes) (34 ∷ []) (escaped_line bytes) refl

symbols_line : (text : List ℕ) (symbols : List Symbol) → SpellsSymbols text symbols → IsLine (symbols_text symbols)
symbols_line text [] spelled = refl
symbols_line text (symbol ∷ symbols) spelled = joined (symbol_text symbol) (symbols_text symbols) (symbol_line spelled.1 symbol spelled.4)
    (symbols_line spelled.2 symbols spelled.5)

rule_line : (text : List ℕ) (rule : RuleText) → IsName rule.left → SpellsSymbols text rule.right → IsLine (rule_text rule)
rule_line text rule named spelled =
    joined (rule.left ++ spaced (codes "::=")) (symbols_text rule.right) (joined rule.left (spaced (codes "::=")) (name-line rule.left named) refl)
    (symbols_line text rule.right spelled)

definition_line : (definition : DefText) → IsName definition.name → IsLine definition.expression → IsLine (definition_text definition)
definition_line definition named expression =
    joined (definition.name ++ spaced (codes "=")) (spaced definition.expression)
    (joined definition.name (spaced (codes "=")) (name-line definition.name named) refl) expression

begins_line : (text : List ℕ) (words : List (List ℕ)) (rest : List ℕ) → BeginsWith text words rest → IsLine text → IsLine rest
begins_line text [] rest begins line = subst (λ (t : List ℕ). IsLine t) begins line
begins_line text (word ∷ words) rest begins line =
    let whole : IsLine (begins.0 ++ (word ++ begins.1)) = subst (λ (t : List ℕ). IsLine t) begins.4 line in
    begins_line begins.1 words rest begins.3 (parted word begins.1 (parted begins.0 (word ++ begins.1) whole).1).1

rest_line : (line : List ℕ) (edit : Edit) (spelled : Spells line edit) → IsLine line → IsLine spelled.rest
rest_line line edit spelled is =
    let whole : IsLine (spelled.blanks ++ (keyword_of edit ++ spelled.behind)) = subst (λ (t : List ℕ). IsLine t) spelled.begins is in
    begins_line spelled.behind (edit_words edit) spelled.rest spelled.words (parted (keyword_of edit) spelled.behind (parted spelled.blanks (keyword_of edit
    ++ spelled.behind) whole).1).1

expression_line : (text expression : List ℕ) → IsExpressionText text expression → IsLine text → IsLine expression
expression_line text expression spelled line = (parted spelled.0 expression (subst (λ (t : List ℕ). IsLine t) spelled.4 line)).1

canonical_line : (line : List ℕ) (edit : Edit) → IsLine line → Spells line edit → IsLine (canonical edit)
unfolding canonical
canonical_line line (AddRule rule) is spelled = rule_line spelled.rest rule spelled.named spelled.tail
canonical_line line (DropRule rule) is spelled = rule_line spelled.rest rule spelled.named spelled.tail
canonical_line line (AddToken definition) is spelled =
    definition_line definition spelled.named (expression_line spelled.rest definition.expression spelled.tail (rest_line line (AddToken definition) spelled is))
canonical_line line (DropToken name) is spelled = name-line name spelled.named
canonical_line line (AddSkip definition) is spelled =
    definition_line definition spelled.named (expression_line spelled.rest definition.expression spelled.tail (rest_line line (AddSkip definition) spelled is))
canonical_line line (DropSkip name) is spelled = name-line name spelled.named

pub is_sound : (line : List ℕ) (edit : Edit) → IsLine line → AreBytes line → Spells line edit → IsWithinLimits edit → IsSound edit
is_sound line edit is bytes spelled within = record {
  line = canonical_line line edit is spelled;
  bytes = canonical_bytes line edit spelled bytes;
  spelled =
      canonical_spells line edit spelled;
  within = within;
}

-- ---- how long it is

begins_len : (text : List ℕ) (words : List (List ℕ)) (rest : List ℕ) → BeginsWith text words rest → length rest ≤ length text
begins_len text [] rest begins = let same : length text ≡ length rest = ap length begins in omega arith
begins_len text (word ∷ words) rest begins =
    let later : length rest ≤ length begins.1 = begins_len begins.1 words rest begins.3 in
    let whole : length text ≡ length begins.0 + length (word ++ begins.1) = ap length begins.4 ∙ length-append begins.0 (word ++ begins.1) in
    let behind : length (word ++ begins.1) ≡ length word + length begins.1 = length-append word begins.1 in
    omega arith

rest_len : (line : List ℕ) (edit : Edit) (spelled : Spells line edit) → length spelled.rest ≤ length line
rest_len line edit spelled =
    let later : length spelled.rest ≤ length spelled.behind = begins_len spelled.behind (edit_words edit) spelled.rest spelled.words in
    let whole : length line ≡ length spelled.blanks + length (keyword_of edit ++ spelled.behind) = ap length spelled.begins ∙ length-append spelled.blanks
    (keyword_of edit ++ spelled.behind) in
    let behind : length (keyword_of edit ++ spelled.behind) ≡ length (keyword_of edit) + length spelled.behind =
    length-append (keyword_of edit) spelled.behind in
    omega arith

rule_len : (text : List ℕ) (rule : RuleText) → IsName rule.left → SpellsSymbols text rule.right → RightFits the_limits rule.right
    → length (rule_text rule) ≤ 2000
rule_len text rule named spelled fits =
    let name : length rule.left ≤ 32 = (name_facts rule.left named).short in
    let right : length (symbols_text rule.right) ≤ 67 * length rule.right = symbols_len text rule.right spelled fits.1 in
    let few : length rule.right ≤ 16 = fits.0 in
    let arrow = spaced (codes "::=") in
    let front : length (rule.left ++ arrow) ≡ length rule.left + 4 = length-append rule.left arrow in
    let whole : length ((rule.left ++ arrow) ++ symbols_text rule.right) ≡ length (rule.left ++ arrow) + length (symbols_text rule.right) =
    length-append (rule.left ++ arrow) (symbols_text rule.right) in
    omega arith

definition_len : (text : List ℕ) (definition : DefText) → IsName definition.name → IsExpressionText text definition.expression
    → length (definition_text definition) ≤ length text + 40
definition_len text definition named spelled =
    let name : length definition.name ≤ 32 = (name_facts definition.name named).short in
    let equals = spaced (codes "=") in
    let front : length (definition.name ++ equals) ≡ length definition.name + 2 = length-append definition.name equals in
    let whole : length ((definition.name ++ equals) ++ spaced definition.expression) ≡ length (definition.name ++ equals) + suc (length definition.expression) =
    length-append (definition.name ++ equals) (spaced definition.expression) in
    let gapped : length text ≡ length spelled.0 + length definition.expression = ap length spelled.4 ∙ length-append spelled.0 definition.expression in
    omega arith

pub canonical_len : (line : List ℕ) (edit : Edit) → length line ≤ LINE_LIMIT → Spells line edit → PartsFit the_limits edit → length (canonical edit) < 2 ^ 32
unfolding canonical
canonical_len line (AddRule rule) le spelled fits = let short : length (rule_text rule) ≤ 2000 = rule_len spelled.rest rule spelled.named spelled.tail fits in
    omega arith
canonical_len line (DropRule rule) le spelled fits = let short : length (rule_text rule) ≤ 2000 = rule_len spelled.rest rule spelled.named spelled.tail fits in
    omega arith
canonical_len line (AddToken definition) le spelled fits =
    let short : length (definition_text definition) ≤ length spelled.rest + 40 = definition_len spelled.rest definition spelled.named spelled.tail in
    let within : length spelled.rest ≤ length line = rest_len line (AddToken definition) spelled in
    omega arith
canonical_len line (DropToken name) le spelled fits = let short : length name ≤ 32 = (name_facts name spelled.named).short in omega arith
canonical_len line (AddSkip definition) le spelled fits =
    let short : length (definition_text definition) ≤ length spelled.rest + 40 = definition_len spelled.rest definition spelled.named spelled.tail in
    let within : length spelled.rest ≤ length line = rest_len line (AddSkip definition) spelled in
    omega arith
canonical_len line (DropSkip name) le spelled fits = let short : length name ≤ 32 = (name_facts name spelled.named).short in omega arith
