use Rattle.std.proofs.Common.{List, ℕ, inl, inr, ◌⊎◌, ◌≡◌}
use Rattle.grammar_text.specs.declared.edit.Edit.{Edit}
use Rattle.grammar_text.specs.Limits.{IsSound}
use Rattle.edit_entry.specs.declared.bad_entry.BadEntry.{BadEntry}
use Rattle.edit_entry.specs.Entries.{entry_of}
use Rattle.edit_entry.specs.BadEntries.{IsRefusedFor}
use Rattle.edit_entry.proofs.EntryLaws.{IsEntry, IsNone, no_entry, one_cause, entry_or_none}
use Rattle.edit_entry.proofs.laws.entry_or_cause.Goals as goal

named : (words : List ℕ) → IsEntry words ⊎ IsNone words → ((edit : Edit) × IsSound edit × (words ≡ entry_of edit)) ⊎
    ((cause : BadEntry) × IsRefusedFor words cause)
named words (inl entry) = inl (entry.edit, entry.sound, entry.is)
named words (inr none) = inr (none.cause, none.is)

pub returns : goal.returns
returns c = record { either = λ words len are. named words (entry_or_none words len are); not_both = no_entry; one = one_cause }
