use Rattle.graph_content.proofs.KeySizes.{history_key_fits}
use Rattle.graph_content.proofs.laws.keys_fit.Goals as goal

pub returns : goal.returns
returns c = history_key_fits
