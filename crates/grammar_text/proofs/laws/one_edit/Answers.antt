use Rattle.grammar_text.proofs.EditReads.{one_edit}
use Rattle.grammar_text.proofs.laws.one_edit.Goals as goal

pub returns : goal.returns
returns c = one_edit
