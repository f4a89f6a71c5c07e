-- The expansion of the scanner's start, written out, and that its words are read.
use Rattle.std.proofs.Common.{◌≡◌, ℕ, ◌<◌, List, [], ◌∷◌, All, refl, sym, ◌∙◌, subst, arith}
use Rattle.std.specs.List.Sorted.{IsStrictlySortedBy}
use Rattle.std.proofs.lemmas.List.Elements.{All-cons, All-nil, All-contains}
use Rattle.edit_log.specs.declared.definitions.DefId.TheVariants.{Literal as literal}
use Rattle.isg_states.specs.declared.mark.Mark.{Mark}
use Rattle.isg_states.specs.declared.scan_key.ScanKey.TheVariants.{Set}
use Rattle.isg_states.specs.declared.ranges.ScanExpansion.{ScanExpansion}
use Rattle.isg_states.specs.Marks.{AreAscending}
use Rattle.isg_states.specs.Expansion.{Range}
use Rattle.row_coding.specs.Conditions.{IsTypedDefinition, AreTypedMarks}
use Rattle.row_coding.specs.Reading.{IsReadableRange, symbol_of}
use Rattle.row_tests.proofs.words.ranges.Goals as goal

-- the ranges
abbrev marks_of : ℕ → List Mark
marks_of symbol = (let first : Mark = record { def = literal (symbol_of symbol); index = 0 } in first) ∷ []

abbrev range : ℕ → ℕ → Range
range byte symbol = (byte, byte, Set (marks_of symbol))

abbrev last_range : List Range
last_range = range 97 3 ∷ []

abbrev ranges : List Range
ranges = range 43 2 ∷ last_range

one_mark : (mark : Mark) → AreAscending (mark ∷ [])
unfolding IsStrictlySortedBy
one_mark mark = record { some = omega arith; order = (tt, tt) }

abbrev HasSmallIndex : Mark → Type 0
HasSmallIndex mark = mark.index < 256

abbrev HasTypedDefinition : Mark → Type 0
HasTypedDefinition mark = IsTypedDefinition mark.def

readable_range : (byte symbol : ℕ) → byte < 256 → symbol < 9 → IsReadableRange (byte, byte, Set (marks_of symbol))
readable_range byte symbol low few =
    let small = All-cons HasSmallIndex _ [] (omega arith) (All-nil HasSmallIndex) in
    let typed = All-cons HasTypedDefinition _ [] (omega arith) (All-nil HasTypedDefinition) in
    record {
      fits = record {
        marks = marks_of symbol;
        is = refl;
        indices = λ mark there. All-contains HasSmallIndex (marks_of symbol) mark small there;
        low = low;
        high = low;
      };
      typed = record { definitions = λ mark there. All-contains HasTypedDefinition (marks_of symbol) mark typed there; ascending = one_mark _ };
    }

readable_ranges : All IsReadableRange ranges
readable_ranges =
    All-cons IsReadableRange (range 43 2) last_range (readable_range 43 2 (omega arith) (omega arith))
    (All-cons IsReadableRange (range 97 3) [] (readable_range 97 3 (omega arith) (omega arith)) (All-nil IsReadableRange))

abbrev scanner_start : ScanExpansion
scanner_start = record { ranges = ranges }

same_marks : (a b : List Mark) → Set a ≡ Set b → a ≡ b
same_marks a b e = cc

pub read_scan-requires : goal.read_scan-requires
read_scan-requires c = (
  scanner_start,
  λ range there. (All-contains IsReadableRange ranges range readable_ranges there).fits,
  λ range there marks is.
      let read = All-contains IsReadableRange ranges range readable_ranges there in
      subst AreTypedMarks (same_marks read.fits.marks marks (sym read.fits.is ∙ is)) read.typed,
  refl,
)
