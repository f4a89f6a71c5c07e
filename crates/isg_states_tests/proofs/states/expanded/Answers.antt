use Rattle.isg_states.proofs.Tables.{range_marks}
use Rattle.isg_states_tests.proofs.states.expanded.Goals as goal

pub returns : goal.returns
returns g c = λ range there. range_marks c.args.grammar.now.grammar c.args.key.now range (c.in_ok-expansion.ensures.expansion.each range there)
