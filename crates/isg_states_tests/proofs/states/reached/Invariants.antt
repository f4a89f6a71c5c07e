use Rattle.isg_states.specs.Expansion.{AreMarks}
use Rattle.isg_states_tests.proofs.states.reached.Given as goal

abbrev pub invariant-loop-byte : goal.invariant-loop-byte
invariant-loop-byte l = AreMarks l.grammar.grammar l.key
