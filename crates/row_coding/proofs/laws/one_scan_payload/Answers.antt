use Rattle.row_coding.proofs.OneCoding.{one_scan_payload}
use Rattle.row_coding.proofs.laws.one_scan_payload.Goals as goal

pub returns : goal.returns
returns c = one_scan_payload
