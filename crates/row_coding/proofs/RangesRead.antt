-- What is read from the words of ranges is what was coded.
use Rattle.std.proofs.Common.{◌≡◌, ℕ, ◌+◌, ◌-◌, ◌*◌, ◌<◌, ◌/◌, ◌%◌, ◌^◌, List, [], ◌∷◌, ◌++◌, length, get_or, take, drop, map, flat_map, All, sym, ap, ◌∙◌}
use Rattle.std.proofs.Common.{subst, arith}
use Rattle.std.proofs.lemmas.List.{length-map, take_rest, append-nil}
use Rattle.std.proofs.lemmas.List.Elements.{All-head, All-tail, All-cons, All-nil, All-get_or}
use Rattle.edit_log.specs.declared.definitions.DefId.{DefId}
use Rattle.edit_log.specs.declared.definitions.DefId.TheVariants.{Literal as literal, Named as named}
use Rattle.isg_states.specs.declared.mark.Mark.{Mark}
use Rattle.isg_states.specs.declared.scan_key.ScanKey.{ScanKey}
use Rattle.isg_states.specs.declared.scan_key.ScanKey.TheVariants.{Start, Set}
use Rattle.isg_states.specs.declared.ranges.ScanExpansion.{ScanExpansion}
use Rattle.isg_states.specs.Marks.{definition_number, mark_number, AreAscending}
use Rattle.isg_states.specs.Expansion.{Range}
use Rattle.row_coding.specs.Words.{marks_in, range_words, scan_payload_words}
use Rattle.row_coding.specs.Conditions.{FitsScanCoding, IsTypedDefinition, IsTypedScan}
use Rattle.row_coding.specs.Reading.{mark_of, range_of, counted_words, rest_of, AreMarkWords, BeginWithRange, BeginWithRanges, IsReadableRange}
use Rattle.row_coding.proofs.PiecesWritten.{next_piece}
use Rattle.row_coding.proofs.PiecesRead.{first_word, is_piece, own_words, words_after}
use Rattle.row_coding.proofs.Inverses.{marks_back, HasSmallIndex}
use Rattle.row_coding.proofs.OneCoding.{at_each_place}

abbrev HasTypedDefinition : Mark → Type 0
HasTypedDefinition mark = IsTypedDefinition mark.def

number_fits : (definition : DefId) (index : ℕ) → index < 256 → IsTypedDefinition definition → (definition_number definition * 256 + index) / 512 < 2 ^ 32
number_fits (literal symbol) index small typed = omega arith
number_fits (named number) index small typed = omega arith

numbers_fit : (marks : List Mark) → All HasTypedDefinition marks → All HasSmallIndex marks → All (λ word. word / 512 < 2 ^ 32) (map mark_number marks)
numbers_fit [] typed small = All-nil (λ word. word / 512 < 2 ^ 32)
numbers_fit (mark ∷ marks) typed small =
    All-cons (λ word. word / 512 < 2 ^ 32) (mark_number mark) (map mark_number marks)
    (number_fits mark.def mark.index (All-head HasSmallIndex mark marks small) (All-head HasTypedDefinition mark marks typed))
    (numbers_fit marks (All-tail HasTypedDefinition mark marks typed) (All-tail HasSmallIndex mark marks small))

module _ (range : Range) (readable : IsReadableRange range) where
  own : List ℕ
  own = map mark_number readable.fits.marks

  small : All HasSmallIndex readable.fits.marks
  small = at_each_place HasSmallIndex readable.fits.marks readable.fits.indices

  own_are : map mark_number (marks_in range.2) ≡ own
  unfolding own
  own_are = ap (λ key. map mark_number (marks_in key)) readable.fits.is

  are_mark_words : AreMarkWords own
  unfolding own
  are_mark_words = record {
    numbers = numbers_fit readable.fits.marks (at_each_place HasTypedDefinition readable.fits.marks readable.typed.definitions) small;
    ascending = subst AreAscending (sym (marks_back readable.fits.marks small)) readable.typed.ascending;
  }

  -- the words in the form of a piece
  range_piece : (words after : List ℕ) → words ≡ range_words range ++ after → words ≡ (range.0 * 256 + range.1) ∷ length own ∷ (own ++ after)
  unfolding own
  range_piece words after is =
      is ∙ ap (λ n. (range.0 * 256 + range.1) ∷ n ∷ (map mark_number (marks_in range.2) ++ after)) (sym (length-map (marks_in range.2) mark_number))
      ∙ ap (λ ws. (range.0 * 256 + range.1) ∷ length ws ∷ (ws ++ after)) own_are

  module _ (words after : List ℕ) (is : words ≡ range_words range ++ after) where
    head : ℕ
    head = range.0 * 256 + range.1

    piece : words ≡ head ∷ length own ∷ (own ++ after)
    unfolding head
    piece = range_piece words after is

    pub begin_with_range : BeginWithRange words
    unfolding head
    begin_with_range = record {
      piece = is_piece words head own after piece;
      ends = omega (arith, first_word words head own after piece, readable.fits.low, readable.fits.high);
      marks = subst AreMarkWords (sym (own_words words head own after piece)) are_mark_words;
    }

    pub range_read : range_of (get_or words 0 0) (counted_words words) ≡ range
    unfolding head own
    range_read =
        let low : (range.0 * 256 + range.1) / 256 ≡ range.0 = omega (arith, readable.fits.high) in
        let high : (range.0 * 256 + range.1) % 256 ≡ range.1 = omega (arith, readable.fits.high) in
        let with_ends : ℕ → ℕ → Range = λ l h. (l, h, Set (map mark_of own)) in
        let with_key : ScanKey → Range = λ key. (range.0, range.1, key) in
        ap (λ n. range_of n (counted_words words)) (first_word words head own after piece) ∙ ap (λ ws. range_of head ws) (own_words words head own after piece)
        ∙ ap (λ l. with_ends l (head % 256)) low ∙ ap (λ h. with_ends range.0 h) high
        ∙ ap (λ ms. with_key (Set ms)) (marks_back readable.fits.marks small) ∙ ap with_key (sym readable.fits.is)

    pub after_range : rest_of words ≡ after
    after_range = words_after words head own after piece

no_range : Range
no_range = (0, 0, Start)

-- of the ranges that the words begin with, the one at i is next
module _ (words now rest : List ℕ) (ranges : List Range) (i : ℕ) (begin : BeginWithRanges words ranges rest) (below : i < length ranges)
    (is : now ≡ flat_map range_words (drop i ranges) ++ rest) where
  range : Range
  range = get_or ranges i no_range

  readable : IsReadableRange range
  unfolding range
  readable = All-get_or IsReadableRange ranges i no_range below begin.readable

  next : now ≡ range_words range ++ (flat_map range_words (drop (i + 1) ranges) ++ rest)
  unfolding range
  next = next_piece range_words now rest ranges i no_range below is

  pub begin_with_next : BeginWithRange now
  begin_with_next = begin_with_range range readable now (flat_map range_words (drop (i + 1) ranges) ++ rest) next

  pub next_read : range_of (get_or now 0 0) (counted_words now) ≡ get_or ranges i (0, 0, Start)
  unfolding range no_range
  next_read = range_read range readable now (flat_map range_words (drop (i + 1) ranges) ++ rest) next

  pub after_next : rest_of now ≡ flat_map range_words (drop (i + 1) ranges) ++ rest
  after_next = after_range range readable now (flat_map range_words (drop (i + 1) ranges) ++ rest) next

-- a payload: the ranges stand after one word
module _ (payload : List ℕ) (coded : ScanExpansion) (fits : FitsScanCoding coded) (typed : IsTypedScan coded) (is : payload ≡ scan_payload_words coded) where
  readable_ranges : All IsReadableRange coded.ranges
  readable_ranges =
      at_each_place IsReadableRange coded.ranges (λ range there.
      let fit = fits range there in
      record { fits = fit; typed = typed range there fit.marks fit.is })

  pub ranges_begin : BeginWithRanges (take (length payload - 1) (drop 1 payload)) coded.ranges []
  ranges_begin = record {
    readable = readable_ranges;
    are = take_rest payload 1 ∙ ap (drop 1) is ∙ sym (append-nil (flat_map range_words coded.ranges));
  }

  pub ranges_count : length coded.ranges ≡ get_or payload 0 0
  ranges_count = sym (ap (λ ws. get_or ws 0 0) is)
