use Rattle.std.proofs.Common.{length}
use Rattle.script_text.proofs.ScriptSteps.{IsReadTo}
use Rattle.script_text.proofs.script.read_script.Given as goal

abbrev pub invariant-lines : goal.invariant-lines
invariant-lines l = IsReadTo l.bytes l.rest l.number l.progress

abbrev pub decreases-lines : goal.decreases-lines
decreases-lines l = length l.rest
