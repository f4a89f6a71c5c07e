use Rattle.grammar_text.specs.Canonical.{canonical}
use Rattle.grammar_text.proofs.Outputs.{length_after}
use Rattle.grammar_text.proofs.writing.written_len.Goals as goal

pub returns : goal.returns
returns c = rw c.in-Ok.ensures (length_after (canonical c.args.edit.now) c.requires)
