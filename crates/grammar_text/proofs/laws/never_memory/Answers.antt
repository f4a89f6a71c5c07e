use Rattle.grammar_text.proofs.Causes.{never_memory}
use Rattle.grammar_text.proofs.laws.never_memory.Goals as goal

pub returns : goal.returns
returns c = never_memory
