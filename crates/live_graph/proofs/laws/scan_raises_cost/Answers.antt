use Rattle.live_graph.proofs.Rises.{scan_rises}
use Rattle.live_graph.proofs.laws.scan_raises_cost.Goals as goal

pub returns : goal.returns
returns g c = λ old new key before after asks. scan_rises old new key before after asks
