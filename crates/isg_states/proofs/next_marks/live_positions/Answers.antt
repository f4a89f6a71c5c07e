use Rattle.isg_states.proofs.Tables.{pattern_table}
use Rattle.isg_states.proofs.next_marks.live_positions.Goals as goal

pub returns : goal.returns
returns c = pattern_table c.args.grammar.now.grammar c.args.definition c.in-Some.positions.now c.requires c.in-Some.ensures.positions c.count.ensures.few
