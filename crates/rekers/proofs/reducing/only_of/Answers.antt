-- The label of one link.
use Rattle.std.proofs.Common.{◌<◌, length, slice_index_or, arith}
use Rattle.std.proofs.lemmas.List.Elements.{Contains-get_or}
use Rattle.rekers.proofs.NewSplits.{only_label}
use Rattle.rekers.proofs.reducing.only_of.Goals as goal

pub edge-requires : goal.edge-requires
edge-requires c =
    let trail = c.args.trail.now in
    let near : 0 < length trail = omega (arith, c.in-len1.len_at_least) in
    c.requires (slice_index_or trail 0 0) (Contains-get_or trail 0 0 near)

pub returns : goal.returns
returns c =
    only_label c.args.stacks.now.links c.args.trail.now c.edge.result (omega (arith, c.in-len1.len_at_least)) (omega (arith, c.in-len1.len_below))
    c.edge.ensures
