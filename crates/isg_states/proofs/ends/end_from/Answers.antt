use Rattle.std.proofs.Common.{◌<◌, ◌^◌, ◌/◌, ◌+◌, arith}
use Rattle.std.specs.Int.{trailing_zeros, w64}
use Rattle.isg_states.proofs.ClassEnds.{none_from}
use Rattle.isg_states.proofs.ends.end_from.Goals as goal

pub returns-clause-none : goal.returns-clause-none
returns-clause-none c = λ bit from to.
    let small : c.args.ends < 2 ^ 64 = omega arith in
    let least = c.min.ensures in
    let below : bit < c.args.low + trailing_zeros w64 (c.args.ends / 2 ^ c.args.low) = omega arith in
    none_from c.args.ends c.args.low bit small from below
