use Rattle.live_graph.proofs.Rises.{one_cost_of}
use Rattle.live_graph.proofs.laws.one_graph_cost.Goals as goal

pub returns : goal.returns
returns g c = λ graph one other is that. one_cost_of graph one other is that
