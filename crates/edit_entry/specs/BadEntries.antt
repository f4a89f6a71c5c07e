-- Which words are no entry, and why.
use Rattle.std.specs.Prelude.{◌≡◌, ◌<◌, ◌⊎◌, ℕ, List, Result, Err}
use Rattle.std.specs.List.{AllByRecursion}
use Rattle.grammar_text.specs.declared.limits.TheConstants.{EDIT_LIMIT}
use Rattle.grammar_text.specs.declared.bad_edit.BadEdit.{BadEdit}
use Rattle.grammar_text.specs.declared.bad_edit.BadEdit.TheVariants as bad_edit
use Rattle.grammar_text.specs.declared.edit.Edit.{Edit}
use Rattle.grammar_text.specs.Pieces.{IsLine}
use Rattle.grammar_text.specs.Canonical.{canonical}
use Rattle.grammar_text.specs.Limits.{IsSound}
use Rattle.grammar_text.specs.Reading.{edit_of}
use Rattle.edit_entry.specs.declared.bad_entry.BadEntry.{BadEntry}
use Rattle.edit_entry.specs.declared.bad_entry.BadEntry.TheVariants.{Length, Text, NotCanonical, NoMemory}
use Rattle.edit_entry.specs.Entries.{length_in, text_in, padding_in}

-- what a refusal of the text becomes
abbrev pub refusal_of : BadEdit → BadEntry
refusal_of bad_edit.NoMemory = NoMemory
refusal_of why = Text why

-- the first word is no length of a text
abbrev pub IsLengthTooLong : List ℕ → Type 0
IsLengthTooLong words = EDIT_LIMIT < length_in words

-- the text is a line, and no edit for this reason
abbrev pub IsNoEdit : List ℕ → BadEdit → Type 0
IsNoEdit text bad_edit.NoMemory = ⊥
IsNoEdit text why = IsLine text × (edit_of text ≡ Err why)

-- the text is that of a sound edit as it is written, which has no byte 10, and zeros stand behind it
pub record IsCanonical (words : List ℕ) : Type 0 where
  pub edit : Edit
  pub sound : IsSound edit
  pub text : text_in words ≡ canonical edit
  pub padding : AllByRecursion (λ byte. byte ≡ 0) (padding_in words)

-- why words are no entry: the first of three causes
abbrev pub IsRefusedFor : List ℕ → BadEntry → Type 0
IsRefusedFor words (Length word) = (word ≡ length_in words) × IsLengthTooLong words
IsRefusedFor words (Text why) = ¬ IsLengthTooLong words × IsNoEdit (text_in words) why
IsRefusedFor words NotCanonical = ¬ IsLengthTooLong words × ((why : BadEdit) → ¬ IsNoEdit (text_in words) why) × ¬ IsCanonical words
IsRefusedFor words NoMemory = ⊥

-- an error comes for its cause; only that memory ran out has none
abbrev pub HasCause : List ℕ → BadEntry → Type 0
HasCause words e = (e ≡ NoMemory) ⊎ IsRefusedFor words e

-- what a call gave is this, or memory ran out
abbrev pub IsDecoded : Result Edit BadEntry → Result Edit BadEntry → Type 0
IsDecoded given answer = (given ≡ answer) ⊎ (given ≡ Err NoMemory)
