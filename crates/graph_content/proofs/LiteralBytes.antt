-- The literals of an edit that can be written are bytes, and not empty.
use Rattle.std.proofs.Common.{◌≡◌, ℕ, ◌<◌, ◌≤◌, Bool, true, false, cond, eqb, List, [], ◌∷◌, ◌++◌, length, Some, None, subst, arith}
use Rattle.std.specs.List.{AllByRecursion}
use Rattle.grammar_text.specs.declared.symbol.Symbol.{Symbol}
use Rattle.grammar_text.specs.declared.symbol.Symbol.TheVariants.{Named, Literal}
use Rattle.grammar_text.specs.declared.edit.Edit.{Edit}
use Rattle.grammar_text.specs.declared.edit.Edit.TheVariants.{AddRule, DropRule, AddToken, DropToken, AddSkip, DropSkip}
use Rattle.grammar_text.specs.Pieces.{AreBytes}
use Rattle.grammar_text.specs.Spelling.{keyword_of, edit_words, SpellsByte, SpellsBytes, SpellsSymbol, SpellsSymbols, BeginsWith, Spells}
use Rattle.grammar_text.specs.Canonical.{canonical}
use Rattle.grammar_text.specs.Limits.{the_limits, SymbolFits, IsSound}
use Rattle.edit_log.specs.Symbols.{symbols_of}

-- a name, or a literal of 1 to 32 bytes
abbrev pub IsSolid : Symbol → Type 0
IsSolid (Named name) = Unit {0}
IsSolid (Literal bytes) = (0 < length bytes) × (length bytes ≤ 32) × AreBytes bytes

parted : (a b : List ℕ) → AreBytes (a ++ b) → AreBytes a × AreBytes b
parted [] b of = (tt, of)
parted (x ∷ a) b of = let others = parted a b of.1 in ((of.0, others.0), others.1)

some_small : (a b : ℕ) → a < 256 → Some a ≡ Some b → b < 256
some_small a b small e = let same : a ≡ b = cc in omega arith

unescaped_small : (quote slash line tab : Bool) (byte : ℕ)
    → cond quote (Some 34) (cond slash (Some 92) (cond line (Some 10) (cond tab (Some 9) None))) ≡ Some byte → byte < 256
unescaped_small true slash line tab byte e = some_small 34 byte (omega arith) e
unescaped_small false true line tab byte e = some_small 92 byte (omega arith) e
unescaped_small false false true tab byte e = some_small 10 byte (omega arith) e
unescaped_small false false false true byte e = some_small 9 byte (omega arith) e
unescaped_small false false false false byte e = absurd cc

spelled_byte : (front : List ℕ) (byte : ℕ) → SpellsByte front byte → AreBytes front → byte < 256
spelled_byte [] byte spelled of = absurd spelled
spelled_byte (first ∷ []) byte spelled of = let same = spelled.1 in let small = of.0 in omega arith
spelled_byte (first ∷ letter ∷ []) byte spelled of = unescaped_small (eqb letter 34) (eqb letter 92) (eqb letter 110) (eqb letter 116) byte spelled.1
spelled_byte (first ∷ letter ∷ more ∷ others) byte spelled of = absurd spelled

literal_bytes : (text bytes : List ℕ) → SpellsBytes text bytes → AreBytes text → AreBytes bytes
literal_bytes text [] spelled of = tt
literal_bytes text (byte ∷ bytes) spelled of =
    let both = parted spelled.0 spelled.1 (subst (λ (t : List ℕ). AreBytes t) spelled.4 of) in
    (spelled_byte spelled.0 byte spelled.2 both.0, literal_bytes spelled.1 bytes spelled.3 both.1)

solid_symbol : (piece : List ℕ) (symbol : Symbol) → SpellsSymbol piece symbol → SymbolFits the_limits symbol → AreBytes piece → IsSolid symbol
solid_symbol piece (Named name) spelled fits of = tt
solid_symbol piece (Literal bytes) spelled fits of =
    let whole : AreBytes (34 ∷ spelled.0 ++ 34 ∷ []) = subst (λ (t : List ℕ). AreBytes t) spelled.2 of in
    (spelled.3, fits, literal_bytes spelled.0 bytes spelled.1 (parted spelled.0 (34 ∷ []) whole.1).0)

solid_symbols : (text : List ℕ) (symbols : List Symbol) → SpellsSymbols text symbols → AllByRecursion (SymbolFits the_limits) symbols → AreBytes text
    → AllByRecursion IsSolid symbols
solid_symbols text [] spelled fits of = tt
solid_symbols text (symbol ∷ symbols) spelled fits of =
    let whole = parted spelled.0 (spelled.1 ++ spelled.2) (subst (λ (t : List ℕ). AreBytes t) spelled.6 of) in
    let both = parted spelled.1 spelled.2 whole.1 in
    (solid_symbol spelled.1 symbol spelled.4 fits.0 both.0, solid_symbols spelled.2 symbols spelled.5 fits.1 both.1)

begins_bytes : (text : List ℕ) (words : List (List ℕ)) (rest : List ℕ) → BeginsWith text words rest → AreBytes text → AreBytes rest
begins_bytes text [] rest begins of = subst (λ (t : List ℕ). AreBytes t) begins of
begins_bytes text (word ∷ words) rest begins of =
    let whole = parted begins.0 (word ++ begins.1) (subst (λ (t : List ℕ). AreBytes t) begins.4 of) in
    begins_bytes begins.1 words rest begins.3 (parted word begins.1 whole.1).1

rest_bytes : (line : List ℕ) (edit : Edit) (spelled : Spells line edit) → AreBytes line → AreBytes spelled.rest
rest_bytes line edit spelled of =
    let whole = parted spelled.blanks (keyword_of edit ++ spelled.behind) (subst (λ (t : List ℕ). AreBytes t) spelled.begins of) in
    begins_bytes spelled.behind (edit_words edit) spelled.rest spelled.words (parted (keyword_of edit) spelled.behind whole.1).1

-- the symbols of an edit that can be written
pub solid_edit : (edit : Edit) → IsSound edit → AllByRecursion IsSolid (symbols_of edit)
solid_edit (AddRule r) sound = (
  tt,
  solid_symbols sound.spelled.rest r.right sound.spelled.tail sound.within.parts.1
      (rest_bytes (canonical (AddRule r)) (AddRule r) sound.spelled sound.bytes),
)
solid_edit (DropRule r) sound = (
  tt,
  solid_symbols sound.spelled.rest r.right sound.spelled.tail sound.within.parts.1
      (rest_bytes (canonical (DropRule r)) (DropRule r) sound.spelled sound.bytes),
)
solid_edit (AddToken d) sound = (tt, tt)
solid_edit (DropToken name) sound = (tt, tt)
solid_edit (AddSkip d) sound = (tt, tt)
solid_edit (DropSkip name) sound = (tt, tt)
