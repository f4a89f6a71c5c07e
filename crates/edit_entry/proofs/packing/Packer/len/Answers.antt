use Rattle.std.proofs.Common.{ap, length, ◌∙◌}
use Rattle.edit_entry.specs.Entries.{text_in}
use Rattle.edit_entry.proofs.EntryPacking.{first_word}
use Rattle.edit_entry.proofs.packing.Packer.len.Goals as goal

pub returns : goal.returns
returns c = first_word c.self.inside.words (text_in c.self.inside.words) c.self.invariant ∙ ap length c.self.view_is
