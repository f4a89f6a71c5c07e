use Rattle.std.proofs.Common.{◌≡◌, refl, slice_get, Some}
use Rattle.packed_spans.proofs.Lists.{read_at}
use Rattle.packed_spans.proofs.nodes.node_of.Goals as goal

pub returns : goal.returns
returns c =
    let at : slice_get c.args.table.now.spans.items c.args.number ≡ Some c.index.result.now = read_at _ _ _ c.requires.number c.index.ensures in
    record { row = c.index.result.now; at = at; symbol = refl; from = refl; to = refl; exact = c.in_ok-splits.ensures c.index.result.now at }
