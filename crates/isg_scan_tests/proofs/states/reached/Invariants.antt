use Rattle.isg_states.specs.Expansion.{AreMarks}
use Rattle.isg_scan_tests.proofs.states.reached.Given as goal

abbrev pub invariant-loop-byte : goal.invariant-loop-byte
invariant-loop-byte g l = AreMarks l.graph.grammar l.key
