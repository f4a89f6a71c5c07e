use Rattle.graph_content.proofs.WordTests.{named_rule}
use Rattle.graph_content.proofs.MoveHeads.{next}
use Rattle.graph_content.proofs.MoveLists.{has_upper}
use Rattle.graph_content.proofs.ChangeLaws.{affected}
use Rattle.graph_content.proofs.laws.touched_is_affected.Goals as goal

pub returns : goal.returns
returns c = affected
