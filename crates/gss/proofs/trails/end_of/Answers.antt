use Rattle.std.proofs.Common.{length, get_or, ◌-◌, arith}
use Rattle.std.proofs.lemmas.List.Elements.{Contains-get_or}
use Rattle.gss.proofs.TrailOrders.{down_within, down_end}
use Rattle.gss.proofs.trails.end_of.Goals as goal

pub edge-requires : goal.edge-requires
edge-requires c =
    let n = length c.args.links.now - 1 in
    down_within c.args.graph.now.links c.args.walk.last c.args.walk.top c.args.links.now c.requires.node c.requires.down (get_or c.args.links.now n 0)
    (Contains-get_or c.args.links.now n 0 (omega (arith, c.if-count-eq0.false)))

pub returns : goal.returns
returns c =
    let n = length c.args.links.now - 1 in
    down_end c.args.graph.now.links c.args.walk.last c.args.walk.top c.args.links.now c.requires.node n 0 c.edge.result c.requires.down
    (omega (arith, c.if-count-eq0.false)) c.edge.ensures
