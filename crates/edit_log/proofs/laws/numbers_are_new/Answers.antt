use Rattle.edit_log.proofs.HistoryLaws.{new_rule, new_definition}
use Rattle.edit_log.proofs.laws.numbers_are_new.Goals as goal

pub returns : goal.returns
returns c = record { rules = new_rule; definitions = new_definition }
