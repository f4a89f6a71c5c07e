use Rattle.row_coding.proofs.OneCoding.{one_key}
use Rattle.row_coding.proofs.laws.one_key.Goals as goal

pub returns : goal.returns
returns c = one_key
