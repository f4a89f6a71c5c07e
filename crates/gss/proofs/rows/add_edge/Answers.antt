use Rattle.std.proofs.Common.{◌≡◌, inl, inr, Some, slice_get, subst, arith}
use Rattle.gss.specs.declared.rows.NodeRow.{NodeRow}
use Rattle.gss.specs.Rows.{aboves}
use Rattle.gss.proofs.Columns.{row_column}
use Rattle.gss.proofs.Growing.{last_within, linked_more}
use Rattle.gss.proofs.rows.add_edge.Goals as goal

pub put_below-requires-clause-last : goal.put_below-requires-clause-last
put_below-requires-clause-last c = λ last at.
    elim (last_within c.args.nodes.now.items c.args.links.now.items c.args.edge.upper last c.requires.linked
    (subst (λ column. slice_get column c.args.edge.upper ≡ Some last) c.put_above.ensures.last at)) [
      | inl is ↦ inl is
      | inr within ↦ inr (omega (arith, within, c.in_ok-push.ensures.len))
    ]

pub returns-clause-linked : goal.returns-clause-linked
returns-clause-linked c =
    let above : slice_get (aboves c.args.nodes.now.items) c.args.edge.lower ≡ Some c.index.result.now.above =
    row_column (λ (r : NodeRow). r.above) c.args.nodes.now.items c.args.edge.lower c.index.result.now c.requires.lower c.index.ensures in
    linked_more c.args.nodes.now.items c.args.links.now.items c.args.edge c.index.result.now.above c.len-link.result c.requires.linked (omega arith)
    (omega arith)
    c.requires.upper c.requires.lower above c.push.new.self.items c.in_ok-push.ensures.items c.put_above.new.nodes.items c.put_below.new.nodes.items
    c.put_below.new.links.items c.put_above.ensures c.put_below.ensures
