use Rattle.std.proofs.Common.{◌<◌, length, arith}
use Rattle.isg_states.proofs.ClassEnds.{ends_more}
use Rattle.isg_states.proofs.ends.ends_of.Goals as goal

pub loop-candidate-preserved : goal.loop-candidate-preserved
loop-candidate-preserved c =
    let within : c.loop-candidate.candidate-index < length c.args.candidates.now = omega arith in
    ends_more c.args.candidates.now c.loop-candidate.candidate-index c.candidate-item.result c.args.number c.loop-candidate.ends c.word-word.result within
    c.candidate-item.is c.loop-candidate.invariant c.word-word.ensures
