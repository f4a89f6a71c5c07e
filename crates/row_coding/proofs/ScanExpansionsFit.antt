-- The expansion of a state of the scanner has room in its words, and numbers of 32 bits.
use Rattle.std.proofs.Common.{◌≡◌, ℕ, zero, suc, ◌<◌, eqb, List, [], ◌∷◌, length, get_or, Contains, IsTrue, sym, ◌∙◌, subst, arith}
use Rattle.std.proofs.lemmas.Bool.{false≢true, eqb-true}
use Rattle.grammar_text.specs.declared.symbol.Symbol.{Symbol}
use Rattle.grammar_text.specs.declared.symbol.Symbol.TheVariants.{Named, Literal}
use Rattle.regex_ast.specs.Bytes.{has}
use Rattle.edit_log.specs.declared.definitions.DefId.{DefId}
use Rattle.edit_log.specs.declared.definitions.DefId.TheVariants.{Literal as literal, Named as named}
use Rattle.edit_log.specs.History.{Definition, Grammar}
use Rattle.edit_log.specs.Facts.{IsNumber, IsWellFormed}
use Rattle.edit_log.proofs.LiveByUses.{found_there}
use Rattle.isg_states.specs.declared.mark.Mark.{Mark}
use Rattle.isg_states.specs.declared.scan_key.ScanKey.{ScanKey}
use Rattle.isg_states.specs.declared.scan_key.ScanKey.TheVariants.{Set}
use Rattle.isg_states.specs.declared.ranges.ScanExpansion.{ScanExpansion}
use Rattle.isg_states.specs.Marks.{AreAscending}
use Rattle.isg_states.specs.Patterns.{Pattern, bytes, expression, IsPatternOf, IsMark, HasByte, classes_in}
use Rattle.isg_states.specs.Expansion.{Range, IsRange, IsScanExpansionOf}
use Rattle.row_coding.specs.Conditions.{FitsScanCoding, IsTypedDefinition, AreTypedMarks, IsTypedScan}
use Rattle.row_coding.proofs.ExpansionsFit.{member}

-- a class that has a byte is one of the list
class_within : (classes : List (List ℕ)) (i byte : ℕ) → IsTrue (has (get_or classes i []) byte) → i < length classes
class_within [] i byte is = absurd (false≢true is)
class_within (class ∷ classes) zero byte is = omega arith
class_within (class ∷ classes) (suc i) byte is = let rest = class_within classes i byte is in omega (arith, rest)

-- a symbol with a text has a number
numbered : (symbols : List Symbol) (n : ℕ) (text : List ℕ) → get_or symbols n (Named []) ≡ Literal text → n < length symbols
numbered [] n text is = absurd cc
numbered (symbol ∷ symbols) zero text is = omega arith
numbered (symbol ∷ symbols) (suc n) text is = let rest = numbered symbols n text is in omega (arith, rest)

module _ (grammar : Grammar) (sound : IsWellFormed grammar) where
  -- the number of a definition that has a pattern is one of 32 bits
  pattern_typed : (definition : DefId) (pattern : Pattern) → IsPatternOf grammar definition pattern → IsTypedDefinition definition
  pattern_typed (literal symbol) (bytes text) is =
      let there = numbered grammar.symbols symbol.0 text is in
      omega (arith, there, sound.few, sound.version)
  pattern_typed (literal symbol) (expression e) is = absurd is
  pattern_typed (named number) (bytes text) is = absurd is
  pattern_typed (named number) (expression e) is =
      let found = found_there (λ (live : Definition). eqb live.number.0 number.0) grammar.definitions is.0 is.1 in
      let small = member (λ (live : Definition). IsNumber grammar.version live.number.0) grammar.definitions is.0 sound.definition_numbers found.0 in
      let same = eqb-true is.0.number.0 number.0 found.1 in
      omega (arith, same, small.1, sound.version)

  module _ (few : (mark : Mark) → IsMark grammar mark → mark.index < 256) (key : ScanKey) (expansion : ScanExpansion)
      (is : IsScanExpansionOf grammar key expansion.ranges) where
    leads : (range : Range) (one : IsRange grammar key range) (mark : Mark) → Contains one.marks mark → HasByte grammar mark range.0
    leads range one mark there = (((one.leads range.0 (omega arith) one.some).members mark).0 there).1

    pub indices_fit : FitsScanCoding expansion
    indices_fit range there =
        let one = is.each range there in
        record {
          marks = one.marks;
          is = one.is;
          indices = λ mark in'.
              let led = leads range one mark in' in
              few mark (led.0, led.1, class_within (classes_in led.0) mark.index range.0 led.2);
          low = omega (arith, one.some, one.bytes);
          high = one.bytes;
        }

    ascending : (range : Range) (one : IsRange grammar key range) → AreAscending one.marks
    ascending range one = record { some = one.somewhere; order = (one.leads range.0 (omega arith) one.some).order }

    typed_marks : (range : Range) (one : IsRange grammar key range) → AreTypedMarks one.marks
    typed_marks range one = record {
      definitions = λ mark in'. let led = leads range one mark in' in pattern_typed mark.def led.0 led.1.is;
      ascending = ascending range one;
    }

    same_marks : (a b : List Mark) → Set a ≡ Set b → a ≡ b
    same_marks a b e = cc

    pub are_typed : IsTypedScan expansion
    are_typed range there marks set =
        let one = is.each range there in
        subst AreTypedMarks (same_marks one.marks marks (sym one.is ∙ set)) (typed_marks range one)
