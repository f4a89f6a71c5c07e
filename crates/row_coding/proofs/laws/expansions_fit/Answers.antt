use Rattle.row_coding.proofs.ExpansionsFit.{dots_fit, are_typed}
use Rattle.row_coding.proofs.laws.expansions_fit.Goals as goal

pub returns : goal.returns
returns c = λ grammar sound kernel expansion is. (dots_fit grammar sound kernel expansion is, are_typed grammar sound kernel expansion is)
