use Rattle.std.proofs.Common.{subst, rules}
use Rattle.grammar_text.specs.Reading.{IsRead}
use Rattle.grammar_text.proofs.ByteTexts.{bytes_from_places}
use Rattle.grammar_text.proofs.EditReads.{edit_of_again, is_found, all_sound}
use Rattle.grammar_text.proofs.reading.read_edit.Goals as goal

pub returns-clause-found : goal.returns-clause-found
returns-clause-found c = is_found c.args.line.now c.edit_of.result c.edit_of.ensures

pub returns-clause-sound : goal.returns-clause-sound
returns-clause-sound c = all_sound c.args.line.now c.edit_of.result c.requires.one_line (bytes_from_places c.args.line.now (search rules)) c.edit_of.ensures

pub returns-clause-only : goal.returns-clause-only
returns-clause-only c = λ edit spelled within. subst (λ read. IsRead c.edit_of.result read)
    (edit_of_again c.args.line.now edit spelled within) c.edit_of.ensures
