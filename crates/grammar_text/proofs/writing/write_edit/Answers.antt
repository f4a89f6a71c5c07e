use Rattle.grammar_text.specs.Canonical.{canonical}
use Rattle.grammar_text.proofs.Outputs.{text_after}
use Rattle.grammar_text.proofs.writing.write_edit.Goals as goal

pub returns : goal.returns
returns c = rw (c.into_vec.ensures, c.in_ok-put_edit.ensures, c.from_vec-text.ensures, c.new.ensures.items) (text_after (canonical c.args.edit.now))
