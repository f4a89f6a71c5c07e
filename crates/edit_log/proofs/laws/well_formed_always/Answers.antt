use Rattle.edit_log.proofs.HistoryLaws.{well_formed_always}
use Rattle.edit_log.proofs.laws.well_formed_always.Goals as goal

pub returns : goal.returns
returns c = well_formed_always
