use Rattle.std.proofs.Common.{take, Contains}
use Rattle.isg_states.specs.Expansion.{Range}
use Rattle.isg_scan.specs.States.{IsInRange}
use Rattle.isg_scan.proofs.leading.range_of.Given as goal

abbrev pub invariant-loop-range : goal.invariant-loop-range
invariant-loop-range l = (range : Range) → Contains (take l.range-index l.ranges) range → IsInRange range l.byte → ⊥
