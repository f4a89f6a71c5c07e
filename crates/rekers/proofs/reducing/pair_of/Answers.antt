-- The labels of two links.
use Rattle.std.proofs.Common.{◌<◌, length, slice_index_or, arith}
use Rattle.std.proofs.lemmas.List.Elements.{Contains-get_or}
use Rattle.rekers.proofs.NewSplits.{pair_labels}
use Rattle.rekers.proofs.reducing.pair_of.Goals as goal

pub edge-requires : goal.edge-requires
edge-requires c =
    let trail = c.args.trail.now in
    let near : 1 < length trail = omega (arith, c.in-len2.len_at_least) in
    c.requires (slice_index_or trail 1 0) (Contains-get_or trail 1 0 near)

pub edge-requires-2 : goal.edge-requires-2
edge-requires-2 c =
    let trail = c.args.trail.now in
    let near : 0 < length trail = omega (arith, c.in-len2.len_at_least) in
    c.requires (slice_index_or trail 0 0) (Contains-get_or trail 0 0 near)

pub returns : goal.returns
returns c =
    let trail = c.args.trail.now in
    pair_labels c.args.stacks.now.links trail c.edge.result c.edge-2.result (omega (arith, c.in-len2.len_at_least)) (omega (arith, c.in-len2.len_below))
    c.edge.ensures c.edge-2.ensures
