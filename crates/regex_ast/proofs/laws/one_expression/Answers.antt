use Rattle.regex_ast.proofs.OneCause.{one_expression}
use Rattle.regex_ast.proofs.laws.one_expression.Goals as goal

pub returns : goal.returns
returns c = one_expression
