use Rattle.std.proofs.Common.{◌≡◌, length}
use Rattle.script_text.specs.Texts.{text_written}
use Rattle.script_text.proofs.TextSteps.{with_front}
use Rattle.script_text.proofs.texts.read_text.Given as goal

abbrev pub invariant-loop-rest : goal.invariant-loop-rest
invariant-loop-rest l = with_front l.text.items (text_written l.rest) ≡ text_written l.written

abbrev pub decreases-loop-rest : goal.decreases-loop-rest
decreases-loop-rest l = length l.rest
