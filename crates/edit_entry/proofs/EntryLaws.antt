-- What an entry holds, and that each refusal has one cause.
use Rattle.std.proofs.Common.{◌≡◌, ℕ, suc, ◌*◌, ◌^◌, ◌<◌, ◌≤◌, List, [], ◌∷◌, length, take, drop, min, Result, Ok, Err, refl, sym, ap, subst, ◌∙◌, ◌⊎◌, inl}
use Rattle.std.proofs.Common.{inr, Bool, true, false, not, eqb, ltb, get_or, ◌-◌, arith, length-drop, length-take}
use Rattle.std.specs.Prelude.{IfOk, IfErr}
use Rattle.std.specs.Result.{IsErrAnd}
use Rattle.std.specs.List.{list_all}
use Rattle.std.specs.Str.{bytes_eq}
use Rattle.std.proofs.lemmas.Bool.{false≢true, ltb-true, ltb-false}
use Rattle.std.proofs.lemmas.List.{take_all}
use Rattle.std.proofs.lemmas.Slice.Eq.{bytes_eq-Decides}
use Rattle.grammar_text.specs.declared.limits.TheConstants.{EDIT_LIMIT}
use Rattle.grammar_text.specs.declared.bad_edit.BadEdit.{BadEdit}
use Rattle.grammar_text.specs.declared.bad_edit.BadEdit.TheVariants as bad_edit
use Rattle.grammar_text.specs.declared.edit.Edit.{Edit}
use Rattle.grammar_text.specs.Pieces.{IsLine}
use Rattle.grammar_text.specs.Canonical.{canonical}
use Rattle.grammar_text.specs.Limits.{IsSound}
use Rattle.grammar_text.specs.Reading.{edit_of}
use Rattle.grammar_text.specs.Reading as reading
use Rattle.grammar_text.proofs.Causes.{never_memory}
use Rattle.grammar_text.proofs.EditReads.{edit_of_again, all_sound}
use Rattle.edit_entry.specs.declared.bad_entry.BadEntry.{BadEntry}
use Rattle.edit_entry.specs.declared.bad_entry.BadEntry.TheVariants.{Length, Text, NotCanonical, NoMemory}
use Rattle.edit_entry.specs.Entries.{packed_words, words_for, entry_of, bytes_of, length_in, text_in, padding_in}
use Rattle.edit_entry.specs.BadEntries.{refusal_of, IsLengthTooLong, IsNoEdit, IsCanonical, IsRefusedFor, HasCause, IsDecoded}
use Rattle.edit_entry.proofs.EntryBytes.{AreWords, Zeros, packed_found, packed_again, length-bytes_of}
use Rattle.edit_entry.proofs.EntryPacking.{text_bytes}

-- ---- what an entry holds

-- the words hold the edit's text, and zeros behind it
pub record Holds (words : List ℕ) (edit : Edit) : Type 0 where
  pub len : length_in words ≡ length (canonical edit)
  pub text : text_in words ≡ canonical edit
  pub padding : Zeros (padding_in words)

entry_holds : (edit : Edit) → IsSound edit → Holds (entry_of edit) edit
unfolding words_for
entry_holds edit sound =
    let short : length (canonical edit) ≤ 8 * 31 = sound.within.text in
    let found = packed_found 31 (canonical edit) sound.bytes short in
    record { len = refl; text = found.text; padding = found.padding }

pub holds : (words : List ℕ) (edit : Edit) → IsSound edit → words ≡ entry_of edit → Holds words edit
holds words edit sound same = subst (λ (ws : List ℕ). Holds ws edit) (sym same) (entry_holds edit sound)

reads_back : (edit : Edit) → IsSound edit → edit_of (canonical edit) ≡ Ok edit
reads_back edit sound = edit_of_again (canonical edit) edit sound.spelled sound.within

-- the text of an entry is read as its edit
pub entry_reads : (words : List ℕ) (edit : Edit) → IsSound edit → words ≡ entry_of edit → edit_of (text_in words) ≡ Ok edit
entry_reads words edit sound same = ap (λ text. edit_of text) (holds words edit sound same).text ∙ reads_back edit sound

pub ok_same : (a b : Edit) → ◌≡◌ {A = Result Edit BadEdit} (Ok a) (Ok b) → a ≡ b
ok_same a b e = cc

pub one_entry : (a b : Edit) → IsSound a → IsSound b → entry_of a ≡ entry_of b → a ≡ b
one_entry a b of_a of_b same = ok_same a b (sym (entry_reads (entry_of a) a of_a refl) ∙ entry_reads (entry_of a) b of_b same)

-- words that hold the edit's text are its entry
is_entry : (words : List ℕ) (edit : Edit) → length words ≡ 32 → AreWords words → length_in words ≤ EDIT_LIMIT → text_in words ≡ canonical edit
    → Zeros (padding_in words) → words ≡ entry_of edit
unfolding words_for
is_entry [] edit len are short text padding = absurd (omega arith)
is_entry (first ∷ words) edit len are short text padding =
    let many : length words ≡ 31 = omega arith in
    let bytes : length (bytes_of words) ≡ 8 * length words = length-bytes_of words in
    let cut : length (take first (bytes_of words)) ≡ min first (length (bytes_of words)) = length-take first (bytes_of words) in
    let same : length (take first (bytes_of words)) ≡ length (canonical edit) = ap length text in
    let whole : first ≡ length (canonical edit) = omega arith in
    let others : words ≡ packed_words 31 (canonical edit) = packed_again 31 first words (canonical edit) many are.1 text padding in
    ap (λ w. w ∷ words) whole ∙ ap (λ ws. length (canonical edit) ∷ ws) others

not_long : (words : List ℕ) → ¬ IsLengthTooLong words → length_in words ≤ EDIT_LIMIT
not_long words small = omega arith

pub canonical_is_entry : (words : List ℕ) (edit : Edit) → length words ≡ 32 → AreWords words → ¬ IsLengthTooLong words → edit_of (text_in words) ≡ Ok edit
    → IsCanonical words → words ≡ entry_of edit
canonical_is_entry words edit len are small reads is =
    let same : is.edit ≡ edit = ok_same is.edit edit (sym (reads_back is.edit is.sound) ∙ sym (ap (λ text. edit_of text) is.text) ∙ reads) in
    let text : text_in words ≡ canonical edit = is.text ∙ ap (λ e. canonical e) same in
    is_entry words edit len are (not_long words small) text is.padding

-- ---- causes

no_edit : (text : List ℕ) (why : BadEdit) → IsNoEdit text why → edit_of text ≡ Err why
no_edit text (bad_edit.Shape offset) is = is.1
no_edit text (bad_edit.BadName offset) is = is.1
no_edit text (bad_edit.BadLiteral offset) is = is.1
no_edit text (bad_edit.TooManySymbols offset) is = is.1
no_edit text (bad_edit.TooLong offset) is = is.1
no_edit text bad_edit.NoMemory is = absurd is

err_same : (text : List ℕ) (a b : BadEdit) → IsNoEdit text a → IsNoEdit text b → a ≡ b
err_same text a b of_a of_b = let e : ◌≡◌ {A = Result Edit BadEdit} (Err a) (Err b) = sym (no_edit text a of_a) ∙ no_edit text b of_b in cc

pub no_entry : (words : List ℕ) (e : BadEntry) (edit : Edit) → IsRefusedFor words e → IsSound edit → words ≡ entry_of edit → ⊥
no_entry words (Length word) edit is sound same =
    let len : length_in words ≡ length (canonical edit) = (holds words edit sound same).len in
    let short : length (canonical edit) ≤ EDIT_LIMIT = sound.within.text in
    let long : EDIT_LIMIT < length_in words = is.1 in
    omega arith
no_entry words (Text why) edit is sound same =
    let e : ◌≡◌ {A = Result Edit BadEdit} (Err why) (Ok edit) = sym (no_edit (text_in words) why is.1) ∙ entry_reads words edit sound same in cc
no_entry words NotCanonical edit is sound same =
    let held = holds words edit sound same in
    is.2 (record { edit = edit; sound = sound; text = held.text; padding = held.padding })
no_entry words NoMemory edit is sound same = is

pub one_cause : (words : List ℕ) (a b : BadEntry) → IsRefusedFor words a → IsRefusedFor words b → a ≡ b
one_cause words (Length a) (Length b) of_a of_b = ap (λ word. Length word) (of_a.0 ∙ sym of_b.0)
one_cause words (Length a) (Text b) of_a of_b = absurd (of_b.0 of_a.1)
one_cause words (Length a) NotCanonical of_a of_b = absurd (of_b.0 of_a.1)
one_cause words (Length a) NoMemory of_a of_b = absurd of_b
one_cause words (Text a) (Length b) of_a of_b = absurd (of_a.0 of_b.1)
one_cause words (Text a) (Text b) of_a of_b = ap (λ why. Text why) (err_same (text_in words) a b of_a.1 of_b.1)
one_cause words (Text a) NotCanonical of_a of_b = absurd (of_b.1 a of_a.1)
one_cause words (Text a) NoMemory of_a of_b = absurd of_b
one_cause words NotCanonical (Length b) of_a of_b = absurd (of_a.0 of_b.1)
one_cause words NotCanonical (Text b) of_a of_b = absurd (of_a.1 b of_b.1)
one_cause words NotCanonical NotCanonical of_a of_b = refl
one_cause words NotCanonical NoMemory of_a of_b = absurd of_b
one_cause words NoMemory b of_a of_b = absurd of_a

-- ---- what decoding learns

pub words_from_places : (xs : List ℕ) → ((k : ℕ) → k < length xs → get_or xs k 0 < 2 ^ 64) → AreWords xs
words_from_places [] at = tt
words_from_places (x ∷ xs) at = (at 0 (omega arith), words_from_places xs (λ k within. at (suc k) (omega arith)))

pub rest_of : (words : List ℕ) → length words ≡ 32 → take 31 (drop 1 words) ≡ drop 1 words
rest_of words len = take_all 31 (drop 1 words) (let behind : length (drop 1 words) ≡ length words - 1 = length-drop 1 words in omega arith)

pub fits : (words : List ℕ) → length_in words ≤ EDIT_LIMIT → ¬ IsLengthTooLong words
fits words short long = omega arith

pub text_len : (words : List ℕ) → length words ≡ 32 → length_in words ≤ EDIT_LIMIT → length (text_in words) ≡ length_in words
text_len words len short =
    let bytes : length (bytes_of (drop 1 words)) ≡ 8 * length (drop 1 words) = length-bytes_of (drop 1 words) in
    let behind : length (drop 1 words) ≡ length words - 1 = length-drop 1 words in
    let cut : length (text_in words) ≡ min (length_in words) (length (bytes_of (drop 1 words))) = length-take (length_in words) (bytes_of (drop 1 words)) in
    omega arith

pub is_no_line : (text other : List ℕ) (r : Bool) → r ≡ false → r ≡ list_all (λ byte. not (eqb byte 10)) text → text ≡ other → ¬ IsLine other
is_no_line text other r fails tests same line =
    let all : list_all (λ byte. not (eqb byte 10)) text ≡ true = subst (λ (t : List ℕ). IsLine t) (sym same) line in
    cc

pub is_a_line : (text other : List ℕ) (r : Bool) → r ≡ true → r ≡ list_all (λ byte. not (eqb byte 10)) text → text ≡ other → IsLine other
is_a_line text other r passes tests same = subst (λ (t : List ℕ). IsLine t) same (sym tests ∙ passes)

-- ---- what decoding may answer

pub record Answer (words : List ℕ) (result : Result Edit BadEntry) : Type 0 where
  pub found : IfOk result (λ edit. IsSound edit × (words ≡ entry_of edit))
  pub only : (edit : Edit) → IsSound edit → words ≡ entry_of edit → IsDecoded result (Ok edit)
  pub exact : IfErr result (HasCause words)
  pub refused : (e : BadEntry) → IsRefusedFor words e → IsDecoded result (Err e)

pub gives_edit : (words : List ℕ) (edit : Edit) → IsSound edit → words ≡ entry_of edit → Answer words (Ok edit)
gives_edit words edit sound same = record {
  found = (sound, same);
  only = λ other of same_too. inl (ap (λ e. Ok e) (one_entry edit other sound of (sym same ∙ same_too)));
  exact = tt;
  refused = λ e is. absurd (no_entry words e edit is sound same);
}

pub gives_cause : (words : List ℕ) (e : BadEntry) → IsRefusedFor words e → Answer words (Err e)
gives_cause words e is = record {
  found = tt;
  only = λ edit sound same. absurd (no_entry words e edit is sound same);
  exact = inr is;
  refused = λ other is_too. inl (ap (λ cause. Err cause) (one_cause words e other is is_too));
}

pub no_memory : (words : List ℕ) → Answer words (Err NoMemory)
no_memory words = record { found = tt; only = λ edit sound same. inr refl; exact = inl refl; refused = λ e is. inr refl }

no_reason : (text : List ℕ) → ¬ IsLine text → (why : BadEdit) → ¬ IsNoEdit text why
no_reason text ends (bad_edit.Shape offset) is = ends is.0
no_reason text ends (bad_edit.BadName offset) is = ends is.0
no_reason text ends (bad_edit.BadLiteral offset) is = ends is.0
no_reason text ends (bad_edit.TooManySymbols offset) is = ends is.0
no_reason text ends (bad_edit.TooLong offset) is = ends is.0
no_reason text ends bad_edit.NoMemory is = is

ended_cause : (words : List ℕ) → ¬ IsLengthTooLong words → ¬ IsLine (text_in words) → IsRefusedFor words NotCanonical
ended_cause words small ends = (small, no_reason (text_in words) ends, λ is. ends (subst (λ (text : List ℕ). IsLine text) (sym is.text) is.sound.line))

-- a text with a line's end
pub ended_line : (words : List ℕ) → ¬ IsLengthTooLong words → ¬ IsLine (text_in words) → Answer words (Err NotCanonical)
ended_line words small ends = gives_cause words NotCanonical (ended_cause words small ends)

unread_go : (words : List ℕ) (why : BadEdit) → ¬ IsLengthTooLong words → IsLine (text_in words) → reading.IsRefusal {A = Edit} why (edit_of (text_in words))
    → Answer words (Err (refusal_of why))
unread_go words (bad_edit.Shape offset) small line read = gives_cause words (Text (bad_edit.Shape offset)) (small, (line, read))
unread_go words (bad_edit.BadName offset) small line read = gives_cause words (Text (bad_edit.BadName offset)) (small, (line, read))
unread_go words (bad_edit.BadLiteral offset) small line read = gives_cause words (Text (bad_edit.BadLiteral offset)) (small, (line, read))
unread_go words (bad_edit.TooManySymbols offset) small line read = gives_cause words (Text (bad_edit.TooManySymbols offset)) (small, (line, read))
unread_go words (bad_edit.TooLong offset) small line read = gives_cause words (Text (bad_edit.TooLong offset)) (small, (line, read))
unread_go words bad_edit.NoMemory small line read = no_memory words

-- a text that was not read
pub unread : (words : List ℕ) (why : BadEdit) (r : Result Edit BadEntry) → ¬ IsLengthTooLong words → IsLine (text_in words)
    → reading.IsRefusal {A = Edit} why (edit_of (text_in words)) → IsErrAnd r (λ e. e ≡ refusal_of why) → Answer words r
unread words why (Ok edit) small line read is = absurd is
unread words why (Err e) small line read is = subst (λ (d : BadEntry). Answer words (Err d)) (sym is) (unread_go words why small line read)

read_no_reason : (text : List ℕ) (edit : Edit) → edit_of text ≡ Ok edit → (why : BadEdit) → ¬ IsNoEdit text why
read_no_reason text edit reads why is = let e : ◌≡◌ {A = Result Edit BadEdit} (Err why) (Ok edit) = sym (no_edit text why is) ∙ reads in cc

other_cause : (words : List ℕ) (edit : Edit) → length words ≡ 32 → AreWords words → ¬ IsLengthTooLong words → edit_of (text_in words) ≡ Ok edit
    → ¬ (words ≡ entry_of edit) → IsRefusedFor words NotCanonical
other_cause words edit len are small reads other = (
  small,
  read_no_reason (text_in words) edit reads,
  λ is. other (canonical_is_entry words edit len are small reads is),
)

-- a text that was read as an edit that is written otherwise
pub other_words : (words : List ℕ) (edit : Edit) → length words ≡ 32 → AreWords words → ¬ IsLengthTooLong words → edit_of (text_in words) ≡ Ok edit
    → ¬ (words ≡ entry_of edit) → Answer words (Err NotCanonical)
other_words words edit len are small reads other =
    gives_cause words NotCanonical (other_cause words edit len are small reads other)

-- ---- all words of an entry's size

pub record IsEntry (words : List ℕ) : Type 0 where
  pub edit : Edit
  pub sound : IsSound edit
  pub is : words ≡ entry_of edit

pub record IsNone (words : List ℕ) : Type 0 where
  pub cause : BadEntry
  pub is : IsRefusedFor words cause

by_words : (words : List ℕ) (edit : Edit) (same : Bool) → bytes_eq words (entry_of edit) ≡ same → length words ≡ 32 → AreWords words → ¬ IsLengthTooLong words
    → edit_of (text_in words) ≡ Ok edit → IsSound edit → IsEntry words ⊎ IsNone words
by_words words edit true told len are small reads sound = inl (record { edit = edit; sound = sound; is = (bytes_eq-Decides words (entry_of edit)).0 told })
by_words words edit false told len are small reads sound =
    inr (record {
      cause = NotCanonical;
      is = other_cause words edit len are small reads (λ is. absurd (false≢true (sym told
          ∙ (bytes_eq-Decides words (entry_of edit)).1 is)));
    })

by_text : (words : List ℕ) (r : Result Edit BadEdit) → edit_of (text_in words) ≡ r → length words ≡ 32 → AreWords words → ¬ IsLengthTooLong words
    → IsLine (text_in words) → IsEntry words ⊎ IsNone words
by_text words (Ok edit) reads len are small line =
    by_words words edit (bytes_eq words (entry_of edit)) refl len are small reads (all_sound (text_in words) (Ok edit) line (text_bytes words) reads)
by_text words (Err (bad_edit.Shape offset)) reads len are small line = inr (record { cause = Text (bad_edit.Shape offset); is = (small, (line, reads)) })
by_text words (Err (bad_edit.BadName offset)) reads len are small line = inr (record { cause = Text (bad_edit.BadName offset); is = (small, (line, reads)) })
by_text words (Err (bad_edit.BadLiteral offset)) reads len are small line = inr (record {
  cause = Text (bad_edit.BadLiteral offset);
  is =
      (small, (line, reads));
})
by_text words (Err (bad_edit.TooManySymbols offset)) reads len are small line = inr (record {
  cause = Text (bad_edit.TooManySymbols offset);
  is =
      (small, (line, reads));
})
by_text words (Err (bad_edit.TooLong offset)) reads len are small line = inr (record { cause = Text (bad_edit.TooLong offset); is = (small, (line, reads)) })
by_text words (Err bad_edit.NoMemory) reads len are small line = absurd (never_memory (text_in words) reads)

by_line : (words : List ℕ) (is_line : Bool) → list_all (λ byte. not (eqb byte 10)) (text_in words) ≡ is_line → length words ≡ 32 → AreWords words
    → ¬ IsLengthTooLong words → IsEntry words ⊎ IsNone words
by_line words true told len are small = by_text words (edit_of (text_in words)) refl len are small told
by_line words false told len are small = inr (record { cause = NotCanonical; is = ended_cause words small (λ line. absurd (false≢true (sym told ∙ line))) })

by_len : (words : List ℕ) (long : Bool) → ltb EDIT_LIMIT (length_in words) ≡ long → length words ≡ 32 → AreWords words → IsEntry words ⊎ IsNone words
by_len words true told len are = inr (record { cause = Length (length_in words); is = (refl, ltb-true EDIT_LIMIT (length_in words) told) })
by_len words false told len are = by_line words (list_all (λ byte. not (eqb byte 10)) (text_in words)) refl len are
    (fits words (ltb-false EDIT_LIMIT (length_in words) told))

pub entry_or_none : (words : List ℕ) → length words ≡ 32 → AreWords words → IsEntry words ⊎ IsNone words
entry_or_none words len are = by_len words (ltb EDIT_LIMIT (length_in words)) refl len are
