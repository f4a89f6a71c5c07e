use Rattle.std.proofs.Common.{take}
use Rattle.isg_states.specs.Candidates.{AreEnds}
use Rattle.isg_states.proofs.ends.ends_of.Given as goal

abbrev pub invariant-loop-candidate : goal.invariant-loop-candidate
invariant-loop-candidate l = AreEnds (take l.candidate-index l.candidates) l.number l.ends
