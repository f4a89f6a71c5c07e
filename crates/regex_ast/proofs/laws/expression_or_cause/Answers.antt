use Rattle.regex_ast.proofs.OneCause.{spelled_or_cause, no_cause, one_cause}
use Rattle.regex_ast.proofs.laws.expression_or_cause.Goals as goal

pub returns : goal.returns
returns c = record { either = spelled_or_cause; not_both = no_cause; one = one_cause }
