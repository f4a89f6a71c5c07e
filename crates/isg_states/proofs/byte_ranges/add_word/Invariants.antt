use Rattle.std.proofs.Common.{◌*◌, ◌+◌, ◌-◌, ◌≤◌}
use Rattle.isg_states.specs.Candidates.{marks_with, TellsBelow}
use Rattle.isg_states.proofs.byte_ranges.add_word.Given as goal

abbrev pub invariant-loop-low : goal.invariant-loop-low
invariant-loop-low l = record {
  within : l.low ≤ 64;
  told : TellsBelow (marks_with l.candidates) (64 * l.number) l.fn.ranges.items → TellsBelow (marks_with l.candidates) (64 * l.number + l.low) l.ranges.items;
}

abbrev pub decreases-loop-low : goal.decreases-loop-low
decreases-loop-low l = 64 - l.low
