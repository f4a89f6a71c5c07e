use Rattle.workbench.proofs.RoomyRuns.{graph_of_roomy}
use Rattle.workbench.proofs.laws.graph_of_roomy_script.Goals as goal

pub returns : goal.returns
returns c = graph_of_roomy
