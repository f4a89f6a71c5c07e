use Rattle.std.proofs.Common.{◌≡◌, ℕ, List, length, Bool, true, false, refl, sym, ap, subst, ◌∙◌, rules}
use Rattle.grammar_text.specs.Reading as reading
use Rattle.edit_entry.specs.declared.bad_entry.BadEntry.TheVariants.{Length}
use Rattle.edit_entry.specs.Entries.{length_in, text_in, entry_of}
use Rattle.edit_entry.proofs.EntryLaws.{words_from_places, fits, is_no_line, is_a_line, gives_edit, gives_cause, ended_line, unread, other_words}
use Rattle.edit_entry.proofs.decoding.decode.Goals as goal

-- what a test that failed would tell is false
refuted : {P : Type 0} (r : Bool) → r ≡ false → (P → r ≡ true) → ¬ P
refuted r fails told holds = let e = told holds in cc

pub returns-then-len-gt-TEXT_LIMIT : goal.returns-then-len-gt-TEXT_LIMIT
returns-then-len-gt-TEXT_LIMIT c =
    let a = gives_cause c.args.words.now (Length (length_in c.args.words.now)) (refl, c.if-len-gt-TEXT_LIMIT.true) in
    record { found = a.found; only = a.only; exact = a.exact; refused = a.refused }

pub returns-then-not-is_line : goal.returns-then-not-is_line
returns-then-not-is_line c =
    let words = c.args.words.now in
    let same : c.deref.result.now ≡ text_in words = c.deref.ensures.value ∙ c.in_ok-text.ensures in
    let a = ended_line words (fits words c.if-len-gt-TEXT_LIMIT.false)
    (is_no_line c.deref.result.now (text_in words) c.is_line.result c.if-not-is_line.true c.is_line.ensures same) in
    record { found = a.found; only = a.only; exact = a.exact; refused = a.refused }

pub returns-in_err-edit : goal.returns-in_err-edit
returns-in_err-edit c =
    let words = c.args.words.now in
    let why = c.in_err-edit.field-0.0 in
    let line = is_a_line c.deref.result.now (text_in words) c.is_line.result c.if-not-is_line.false c.is_line.ensures (c.deref.ensures.value
    ∙ c.in_ok-text.ensures) in
    let read = subst (λ (text : List ℕ). reading.IsRefusal why (reading.edit_of text)) (c.deref-2.ensures.value
    ∙ c.in_ok-text.ensures) c.in_err-edit.ensures.exact in
    let a = unread words why c.from_residual-in_err-edit.result (fits words c.if-len-gt-TEXT_LIMIT.false) line read c.from_residual-in_err-edit.ensures.1 in
    record { found = a.found; only = a.only; exact = a.exact; refused = a.refused }

pub returns : goal.returns
returns c =
    let words = c.args.words.now in
    let edit = c.in_ok-edit.edit in
    let len : length words ≡ 32 = search rules in
    let reads = sym (ap (λ text. reading.edit_of text) (c.deref-2.ensures.value ∙ c.in_ok-text.ensures)) ∙ c.in_ok-edit.ensures.exact in
    let other : ¬ (words ≡ entry_of edit) = refuted c.is_entry_of.result c.if-is_entry_of.false c.is_entry_of.ensures.1 in
    let a = other_words words edit len (words_from_places words (search rules)) (fits words c.if-len-gt-TEXT_LIMIT.false) reads other in
    record { found = a.found; only = a.only; exact = a.exact; refused = a.refused }

pub returns-then-is_entry_of : goal.returns-then-is_entry_of
returns-then-is_entry_of c =
    let a = gives_edit c.args.words.now c.in_ok-edit.edit c.in_ok-edit.ensures.sound (c.is_entry_of.ensures.0 c.if-is_entry_of.true) in
    record { found = a.found; only = a.only; exact = a.exact; refused = a.refused }
