use Rattle.graph_content.proofs.ChangeLaws.{unaffected}
use Rattle.graph_content.proofs.laws.untouched_is_unaffected.Goals as goal

pub returns : goal.returns
returns c = unaffected
