use Rattle.std.proofs.Common.{◌*◌}
use Rattle.isg_states.specs.Candidates.{marks_with, TellsBelow}
use Rattle.isg_states.proofs.byte_ranges.byte_ranges.Given as goal

abbrev pub invariant-loop-number : goal.invariant-loop-number
invariant-loop-number l = TellsBelow (marks_with l.candidates) (64 * l.number) l.ranges.items
