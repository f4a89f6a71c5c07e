-- The nodes that a trail leads over.
use Rattle.std.proofs.Common.{◌<◌, length, get_or, arith}
use Rattle.std.proofs.lemmas.List.Elements.{Contains-get_or}
use Rattle.gss.proofs.PathTrails.{along_more}
use Rattle.gss.proofs.paths.path_of.Goals as goal

pub edge-requires : goal.edge-requires
edge-requires c =
    let trail = c.args.trail.now in
    let near : c.loop-link.link-index < length trail = omega arith in
    c.requires (get_or trail c.loop-link.link-index 0) (Contains-get_or trail c.loop-link.link-index 0 near)

pub loop-link-preserved : goal.loop-link-preserved
loop-link-preserved c =
    let trail = c.args.trail.now in
    let near : c.loop-link.link-index < length trail = omega arith in
    along_more c.args.graph.now.links c.args.node trail c.loop-link.link-index c.edge.result c.loop-link.nodes.items c.push-in-loop-link.new.self.items near
    c.edge.ensures c.loop-link.invariant c.in_ok-push-2.ensures.items
