use Rattle.grammar_text.proofs.Causes.{too_long, only_too_long}
use Rattle.grammar_text.proofs.laws.too_long.Goals as goal

pub returns : goal.returns
returns c = record { long = too_long; other = only_too_long }
