use Rattle.edit_entry.proofs.EntryLaws.{one_entry}
use Rattle.edit_entry.proofs.laws.one_entry.Goals as goal

pub returns : goal.returns
returns c = one_entry
