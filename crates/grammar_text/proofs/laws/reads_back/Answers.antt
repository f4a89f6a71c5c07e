use Rattle.grammar_text.specs.Canonical.{canonical}
use Rattle.grammar_text.proofs.EditReads.{edit_of_again}
use Rattle.grammar_text.proofs.laws.reads_back.Goals as goal

pub returns : goal.returns
returns c = λ edit sound. edit_of_again (canonical edit) edit sound.spelled sound.within
