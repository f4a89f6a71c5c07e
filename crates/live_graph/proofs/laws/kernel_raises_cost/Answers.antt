use Rattle.live_graph.proofs.Rises.{kernel_rises}
use Rattle.live_graph.proofs.laws.kernel_raises_cost.Goals as goal

pub returns : goal.returns
returns g c = λ old new key before after asks. kernel_rises old new key before after asks
