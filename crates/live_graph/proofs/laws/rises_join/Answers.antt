use Rattle.live_graph.proofs.Rises.{rise_join}
use Rattle.live_graph.proofs.laws.rises_join.Goals as goal

pub returns : goal.returns
returns g c = λ old middle new before between after first second. rise_join old middle new before between after first second
