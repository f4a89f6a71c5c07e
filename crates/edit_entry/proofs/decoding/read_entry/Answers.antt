use Rattle.std.proofs.Common.{◌≡◌, ℕ, ◌≤◌, List, length, Ok, sym, ap, subst, ◌∙◌, arith}
use Rattle.grammar_text.specs.declared.edit.Edit.{Edit}
use Rattle.grammar_text.specs.declared.limits.TheConstants.{LINE_LIMIT}
use Rattle.grammar_text.specs.Pieces.{IsLine}
use Rattle.grammar_text.specs.Limits.{IsSound}
use Rattle.grammar_text.specs.Canonical.{canonical}
use Rattle.grammar_text.specs.Reading as reading
use Rattle.edit_entry.specs.Entries.{text_in, entry_of}
use Rattle.edit_entry.proofs.EntryLaws.{holds, entry_reads, ok_same}
use Rattle.edit_entry.proofs.decoding.read_entry.Goals as goal

-- what the text in an entry is
record IsText (text : List ℕ) : Type 0 where
  short : length text ≤ LINE_LIMIT
  line : IsLine text

text_of : (words : List ℕ) → (edit : Edit) × IsSound edit × (words ≡ entry_of edit) → IsText (text_in words)
text_of words of =
    let is : text_in words ≡ canonical of.0 = (holds words of.0 of.1 of.2).text in
    let within : length (canonical of.0) ≤ 248 = of.1.within.text in
    subst (λ (text : List ℕ). IsText text) (sym is) (record { short = omega arith; line = of.1.line })

pub read_edit-requires-clause-short : goal.read_edit-requires-clause-short
read_edit-requires-clause-short c =
    subst (λ (text : List ℕ). length text ≤ LINE_LIMIT) (sym (c.deref.ensures.value ∙ c.in_ok-text.ensures)) (text_of c.args.words.now c.requires).short

pub read_edit-requires-clause-one_line : goal.read_edit-requires-clause-one_line
read_edit-requires-clause-one_line c =
    subst (λ (text : List ℕ). IsLine text) (sym (c.deref.ensures.value ∙ c.in_ok-text.ensures)) (text_of c.args.words.now c.requires).line

pub returns-in-Ok : goal.returns-in-Ok
returns-in-Ok c edit sound is =
    let reads : reading.edit_of (text_in c.args.words.now) ≡ Ok c.in-Ok.edit =
    sym (ap (λ text. reading.edit_of text) (c.deref.ensures.value ∙ c.in_ok-text.ensures)) ∙ c.in-Ok.ensures.exact in
    ok_same c.in-Ok.edit edit (sym reads ∙ entry_reads c.args.words.now edit sound is)
