use Rattle.std.proofs.Common.{sym, subst}
use Rattle.graph_content.specs.Affected.{IsUnaffected}
use Rattle.graph_content.proofs.Choices.{left_exact, left_told}
use Rattle.graph_content.proofs.laws.kept_is_unaffected.Goals as goal

pub returns : goal.returns
returns c = λ grammar next touch key row change is. (left_told grammar next touch key row change is, left_exact grammar next touch key change row is)
