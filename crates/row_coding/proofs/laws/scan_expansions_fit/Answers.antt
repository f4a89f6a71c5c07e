use Rattle.row_coding.proofs.ScanExpansionsFit.{indices_fit, are_typed}
use Rattle.row_coding.proofs.laws.scan_expansions_fit.Goals as goal

pub returns : goal.returns
returns c = λ grammar sound few key expansion is. (indices_fit grammar sound few key expansion is, are_typed grammar sound few key expansion is)
