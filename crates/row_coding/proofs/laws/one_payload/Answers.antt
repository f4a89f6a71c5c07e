use Rattle.row_coding.proofs.OneCoding.{one_item_payload}
use Rattle.row_coding.proofs.laws.one_payload.Goals as goal

pub returns : goal.returns
returns c = one_item_payload
