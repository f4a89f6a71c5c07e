use Rattle.isg_scan.proofs.OneScan.{one_scan}
use Rattle.isg_scan.proofs.laws.one_scan.Goals as goal

pub returns : goal.returns
returns c = λ grammar text one other is that. one_scan grammar text one other is that
