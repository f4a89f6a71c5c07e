use Rattle.graph_content.proofs.LogLaws.{one_history}
use Rattle.graph_content.proofs.laws.one_history.Goals as goal

pub returns : goal.returns
returns c = one_history
