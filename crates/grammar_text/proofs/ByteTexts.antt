-- The canonical text of an edit that a line of bytes spells is a list of bytes.
use Rattle.std.proofs.Common.{◌≡◌, ℕ, suc, ◌<◌, ◌≤◌, Bool, true, false, ◌&&◌, ◌||◌, cond, eqb, leb, List, [], ◌∷◌, ◌++◌, length, get_or, subst, inl, inr, arith}
use Rattle.std.specs.Prelude.{codes, Some, None}
use Rattle.std.specs.List.{flat_map, list_all}
use Rattle.std.proofs.lemmas.Bool.{and_parts, or_cases, eqb-true, leb-true}
use Rattle.grammar_text.specs.declared.limits.TheConstants.{NAME_LIMIT}
use Rattle.grammar_text.specs.declared.symbol.Symbol.{Symbol}
use Rattle.grammar_text.specs.declared.symbol.Symbol.TheVariants.{Named, Literal}
use Rattle.grammar_text.specs.declared.edit.RuleText.{RuleText}
use Rattle.grammar_text.specs.declared.edit.DefText.{DefText}
use Rattle.grammar_text.specs.declared.edit.Edit.{Edit}
use Rattle.grammar_text.specs.declared.edit.Edit.TheVariants.{AddRule, DropRule, AddToken, DropToken, AddSkip, DropSkip}
use Rattle.grammar_text.specs.Names.{is_letter, is_name_byte, begins_with_letter, IsName}
use Rattle.grammar_text.specs.Pieces.{AreBytes}
use Rattle.grammar_text.specs.Spelling.{keyword_of, edit_words, SpellsByte, SpellsBytes, SpellsSymbol, SpellsSymbols, IsExpressionText, BeginsWith, Spells}
use Rattle.grammar_text.specs.Canonical.{escaped, symbol_text, spaced, symbols_text, rule_text, definition_text, canonical}

-- ---- lists of bytes

-- what a slice of bytes tells
pub bytes_from_places : (xs : List ℕ) → ((k : ℕ) → k < length xs → get_or xs k 0 < 256) → AreBytes xs
bytes_from_places [] at = tt
bytes_from_places (x ∷ xs) at = (at 0 (omega arith), bytes_from_places xs (λ k within. at (suc k) (omega arith)))

joined : (a b : List ℕ) → AreBytes a → AreBytes b → AreBytes (a ++ b)
joined [] b of_a of_b = of_b
joined (x ∷ a) b of_a of_b = (of_a.0, joined a b of_a.1 of_b)

parted : (a b : List ℕ) → AreBytes (a ++ b) → AreBytes a × AreBytes b
parted [] b of = (tt, of)
parted (x ∷ a) b of = let others = parted a b of.1 in ((of.0, others.0), others.1)

-- ---- names

between : (low high byte : ℕ) → (leb low byte && leb byte high) ≡ true → byte ≤ high
between low high byte is = leb-true byte high (and_parts (leb low byte) (leb byte high) is).1

letter_small : (byte : ℕ) → is_letter byte ≡ true → byte < 256
letter_small byte is =
    elim (or_cases (leb 65 byte && leb byte 90) (leb 97 byte && leb byte 122) is) [
      | inl big ↦ let small = between 65 90 byte big in omega arith
      | inr little ↦ let small = between 97 122 byte little in omega arith
    ]

name_byte_small : (byte : ℕ) → is_name_byte byte ≡ true → byte < 256
name_byte_small byte is =
    elim (or_cases (is_letter byte || (leb 48 byte && leb byte 57)) (eqb byte 95) is) [
      | inl plain ↦ elim (or_cases (is_letter byte) (leb 48 byte && leb byte 57) plain) [
        | inl letter ↦ letter_small byte letter
        | inr digit ↦ let small = between 48 57 byte digit in omega arith
      ]
      | inr underscore ↦ let at = eqb-true byte 95 underscore in omega arith
    ]

name_go : (bytes : List ℕ) → list_all is_name_byte bytes ≡ true → AreBytes bytes
name_go [] is = tt
name_go (byte ∷ bytes) is = let both = and_parts (is_name_byte byte) (list_all is_name_byte bytes) is in (name_byte_small byte both.0, name_go bytes both.1)

name_bytes : (name : List ℕ) → IsName name → AreBytes name
name_bytes name is = name_go name (and_parts (leb (length name) NAME_LIMIT && begins_with_letter name) (list_all is_name_byte name) is).1

-- ---- literals

escaped-go : (quote slash line tab : Bool) (byte : ℕ) → byte < 256
    → AreBytes (cond quote (92 ∷ 34 ∷ []) (cond slash (92 ∷ 92 ∷ []) (cond line (92 ∷ 110 ∷ []) (cond tab (92 ∷ 116 ∷ []) (byte ∷ [])))))
escaped-go true slash line tab byte small = (omega arith, (omega arith, tt))
escaped-go false true line tab byte small = (omega arith, (omega arith, tt))
escaped-go false false true tab byte small = (omega arith, (omega arith, tt))
escaped-go false false false true byte small = (omega arith, (omega arith, tt))
escaped-go false false false false byte small = (small, tt)

escaped_bytes : (byte : ℕ) → byte < 256 → AreBytes (escaped byte)
escaped_bytes byte small = escaped-go (eqb byte 34) (eqb byte 92) (eqb byte 10) (eqb byte 9) byte small

some_small : (a b : ℕ) → a < 256 → Some a ≡ Some b → b < 256
some_small a b small e = let same : a ≡ b = cc in omega arith

unescaped-go : (quote slash line tab : Bool) (byte : ℕ) → cond quote (Some 34) (cond slash (Some 92) (cond line (Some 10) (cond tab (Some 9) None))) ≡ Some byte
    → byte < 256
unescaped-go true slash line tab byte e = some_small 34 byte (omega arith) e
unescaped-go false true line tab byte e = some_small 92 byte (omega arith) e
unescaped-go false false true tab byte e = some_small 10 byte (omega arith) e
unescaped-go false false false true byte e = some_small 9 byte (omega arith) e
unescaped-go false false false false byte e = absurd cc

spelled_byte : (front : List ℕ) (byte : ℕ) → SpellsByte front byte → AreBytes front → byte < 256
spelled_byte [] byte spelled of = absurd spelled
spelled_byte (first ∷ []) byte spelled of = let same = spelled.1 in let small = of.0 in omega arith
spelled_byte (first ∷ letter ∷ []) byte spelled of = unescaped-go (eqb letter 34) (eqb letter 92) (eqb letter 110) (eqb letter 116) byte spelled.1
spelled_byte (first ∷ letter ∷ more ∷ others) byte spelled of = absurd spelled

literal_bytes : (text bytes : List ℕ) → SpellsBytes text bytes → AreBytes text → AreBytes (flat_map escaped bytes)
literal_bytes text [] spelled of = tt
literal_bytes text (byte ∷ bytes) spelled of =
    let both = parted spelled.0 spelled.1 (subst (λ (t : List ℕ). AreBytes t) spelled.4 of) in
    joined (escaped byte) (flat_map escaped bytes) (escaped_bytes byte (spelled_byte spelled.0 byte spelled.2 both.0))
    (literal_bytes spelled.1 bytes spelled.3 both.1)

-- ---- symbols

symbol_bytes : (piece : List ℕ) (symbol : Symbol) → SpellsSymbol piece symbol → AreBytes piece → AreBytes (symbol_text symbol)
symbol_bytes piece (Named name) spelled of = name_bytes name spelled.1
symbol_bytes piece (Literal bytes) spelled of =
    let whole : AreBytes (34 ∷ spelled.0 ++ 34 ∷ []) = subst (λ (t : List ℕ). AreBytes t) spelled.2 of in
    let inner = parted spelled.0 (34 ∷ []) whole.1 in
    (whole.0, joined (flat_map escaped bytes) (34 ∷ []) (literal_bytes spelled.0 bytes spelled.1 inner.0) inner.1)

symbols_bytes : (text : List ℕ) (symbols : List Symbol) → SpellsSymbols text symbols → AreBytes text → AreBytes (symbols_text symbols)
symbols_bytes text [] spelled of = tt
symbols_bytes text (symbol ∷ symbols) spelled of =
    let whole = parted spelled.0 (spelled.1 ++ spelled.2) (subst (λ (t : List ℕ). AreBytes t) spelled.6 of) in
    let both = parted spelled.1 spelled.2 whole.1 in (
      omega arith,
      joined (symbol_text symbol) (symbols_text symbols) (symbol_bytes spelled.1 symbol spelled.4 both.0)
          (symbols_bytes spelled.2 symbols spelled.5 both.1),
    )

-- ---- the forms of an edit

spaced_bytes : (piece : List ℕ) → AreBytes piece → AreBytes (spaced piece)
spaced_bytes piece of = (omega arith, of)

rule_bytes : (text : List ℕ) (rule : RuleText) → IsName rule.left → SpellsSymbols text rule.right → AreBytes text → AreBytes (rule_text rule)
rule_bytes text rule named spelled of =
    joined (spaced rule.left ++ spaced (codes "::=")) (symbols_text rule.right)
    (joined (spaced rule.left) (spaced (codes "::=")) (spaced_bytes rule.left (name_bytes rule.left named)) (
      omega arith,
      (omega arith, (omega arith, (omega arith, tt))),
    ))
    (symbols_bytes text rule.right spelled of)

definition_bytes : (text : List ℕ) (definition : DefText) → IsName definition.name → IsExpressionText text definition.expression → AreBytes text
    → AreBytes (definition_text definition)
definition_bytes text definition named spelled of =
    joined (spaced definition.name ++ spaced (codes "=")) (spaced definition.expression)
    (joined (spaced definition.name) (spaced (codes "=")) (spaced_bytes definition.name (name_bytes definition.name named)) (omega arith, (omega arith, tt)))
    (spaced_bytes definition.expression (parted spelled.0 definition.expression (subst (λ (t : List ℕ). AreBytes t) spelled.4 of)).1)

begins_bytes : (text : List ℕ) (words : List (List ℕ)) (rest : List ℕ) → BeginsWith text words rest → AreBytes text → AreBytes rest
begins_bytes text [] rest begins of = subst (λ (t : List ℕ). AreBytes t) begins of
begins_bytes text (word ∷ words) rest begins of =
    let whole = parted begins.0 (word ++ begins.1) (subst (λ (t : List ℕ). AreBytes t) begins.4 of) in
    begins_bytes begins.1 words rest begins.3 (parted word begins.1 whole.1).1

rest_bytes : (line : List ℕ) (edit : Edit) (spelled : Spells line edit) → AreBytes line → AreBytes spelled.rest
rest_bytes line edit spelled of =
    let whole = parted spelled.blanks (keyword_of edit ++ spelled.behind) (subst (λ (t : List ℕ). AreBytes t) spelled.begins of) in
    begins_bytes spelled.behind (edit_words edit) spelled.rest spelled.words (parted (keyword_of edit) spelled.behind whole.1).1

drop_bytes : (bytes : List ℕ) → AreBytes bytes → AreBytes (codes "drop" ++ bytes)
drop_bytes bytes of = (omega arith, (omega arith, (omega arith, (omega arith, of))))

rule_word : (bytes : List ℕ) → AreBytes bytes → AreBytes (codes "rule" ++ bytes)
rule_word bytes of = (omega arith, (omega arith, (omega arith, (omega arith, of))))

token_word : (bytes : List ℕ) → AreBytes bytes → AreBytes (codes "token" ++ bytes)
token_word bytes of = (omega arith, (omega arith, (omega arith, (omega arith, (omega arith, of)))))

skip_word : (bytes : List ℕ) → AreBytes bytes → AreBytes (codes "skip" ++ bytes)
skip_word bytes of = (omega arith, (omega arith, (omega arith, (omega arith, of))))

pub canonical_bytes : (line : List ℕ) (edit : Edit) → Spells line edit → AreBytes line → AreBytes (canonical edit)
unfolding canonical
canonical_bytes line (AddRule rule) spelled of = rule_word (rule_text rule) (rule_bytes spelled.rest rule spelled.named spelled.tail
    (rest_bytes line (AddRule rule) spelled of))
canonical_bytes line (DropRule rule) spelled of =
    drop_bytes (spaced (codes "rule") ++ rule_text rule) (
      omega arith,
      rule_word (rule_text rule) (rule_bytes spelled.rest rule spelled.named spelled.tail
          (rest_bytes line (DropRule rule) spelled of)),
    )
canonical_bytes line (AddToken definition) spelled of =
    token_word (definition_text definition) (definition_bytes spelled.rest definition spelled.named spelled.tail
    (rest_bytes line (AddToken definition) spelled of))
canonical_bytes line (DropToken name) spelled of = drop_bytes (spaced (codes "token") ++ spaced name)
    (omega arith, token_word (spaced name) (spaced_bytes name (name_bytes name spelled.named)))
canonical_bytes line (AddSkip definition) spelled of =
    skip_word (definition_text definition) (definition_bytes spelled.rest definition spelled.named spelled.tail
    (rest_bytes line (AddSkip definition) spelled of))
canonical_bytes line (DropSkip name) spelled of = drop_bytes (spaced (codes "skip") ++ spaced name)
    (omega arith, skip_word (spaced name) (spaced_bytes name (name_bytes name spelled.named)))
