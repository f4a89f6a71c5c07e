use Rattle.grammar_text.specs.Pieces.{start_of}
use Rattle.grammar_text.specs.Limits.{the_limits}
use Rattle.grammar_text.proofs.EditLaws.{edit_takes}
use Rattle.grammar_text.proofs.Soundness.{canonical_len}
use Rattle.grammar_text.proofs.reading.edit_of.Goals as goal

pub written_len-requires : goal.written_len-requires
written_len-requires c =
    let line = c.args.line.now in
    let edit = c.in_ok-edit.edit in
    let read = edit_takes the_limits (start_of line) edit (rw c.new.ensures at c.in_ok-edit.ensures) in
    canonical_len line edit c.requires read.0 read.1
