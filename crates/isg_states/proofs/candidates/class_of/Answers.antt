use Rattle.isg_states.proofs.Tables.{index_within, class_is}
use Rattle.isg_states.proofs.candidates.class_of.Goals as goal

pub class-requires : goal.class-requires
class-requires c = index_within c.args.mark c.live_positions.ensures c.requires

pub returns : goal.returns
returns c = class_is c.args.mark c.live_positions.ensures c.requires c.class.result.now c.class.ensures
