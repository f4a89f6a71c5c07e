use Rattle.grammar_text.proofs.EditLaws.{edit_of_takes}
use Rattle.grammar_text.proofs.EditReads.{edit_of_again}
use Rattle.grammar_text.proofs.laws.read_as_spelled.Goals as goal

pub returns : goal.returns
returns c = λ line edit. (edit_of_takes line edit, λ spelled. edit_of_again line edit spelled.0 spelled.1)
