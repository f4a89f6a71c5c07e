use Rattle.std.proofs.Common.{refl}
use Rattle.edit_entry.specs.Entries.{packed_words, words_for}
use Rattle.edit_entry.proofs.packing.Packer.new.Goals as goal

pub invariant_of-result : goal.invariant_of-result
unfolding words_for packed_words
invariant_of-result c = refl
