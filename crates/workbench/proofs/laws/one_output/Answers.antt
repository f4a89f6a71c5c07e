use Rattle.workbench.proofs.OneOutput.{one_output}
use Rattle.workbench.proofs.laws.one_output.Goals as goal

pub returns : goal.returns
returns c = one_output
