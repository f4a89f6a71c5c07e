use Rattle.grammar_text.proofs.Soundness.{canonical_spells}
use Rattle.grammar_text.proofs.laws.canonical_is_spelled.Goals as goal

pub returns : goal.returns
returns c = canonical_spells
