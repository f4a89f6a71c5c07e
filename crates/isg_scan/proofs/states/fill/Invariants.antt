use Rattle.std.proofs.Common.{◌+◌}
use Rattle.isg_scan.proofs.Fills.{IsFilledTo}
use Rattle.isg_scan.proofs.states.fill.Given as goal

abbrev pub invariant-loop-place : goal.invariant-loop-place
invariant-loop-place l = IsFilledTo l.initial.table.items l.table.items (l.row + l.low) l.place l.entry
