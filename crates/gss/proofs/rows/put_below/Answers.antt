use Rattle.std.proofs.Common.{inl, inr, refl, ap, ◌∙◌}
use Rattle.std.proofs.Math.ListN.{set}
use Rattle.gss.specs.declared.rows.NodeRow.{NodeRow}
use Rattle.gss.proofs.Columns.{row_column}
use Rattle.gss.proofs.rows.put_below.Goals as goal

pub returns-then-last : goal.returns-then-last
returns-then-last c = record {
  place = c.put_first.ensures.place ∙ c.put_last.ensures.place;
  last = c.put_first.ensures.last ∙ c.put_last.ensures.last;
  above = c.put_first.ensures.above ∙ c.put_last.ensures.above;
  edge = refl;
  older = refl;
  was = c.index.result.now.last;
  was_last = row_column (λ (r : NodeRow). r.last) c.args.nodes.now.items c.args.node c.index.result.now c.requires.node c.index.ensures;
  chain = inl (c.if-last.true, c.put_first.ensures.first ∙ ap (λ column. set column c.args.node c.args.link) c.put_last.ensures.first, refl);
}

pub put_next-requires : goal.put_next-requires
put_next-requires c = elim (c.requires.last c.index.result.now.last
    (row_column (λ (r : NodeRow). r.last) c.args.nodes.now.items c.args.node c.index.result.now c.requires.node c.index.ensures)) [
      | inl is ↦ absurd (c.if-last.false is)
      | inr within ↦ within
    ]

pub returns : goal.returns
returns c = record {
  place = c.put_last.ensures.place;
  last = c.put_last.ensures.last;
  above = c.put_last.ensures.above;
  edge = c.put_next.ensures.edge;
  older = c.put_next.ensures.older;
  was = c.index.result.now.last;
  was_last = row_column (λ (r : NodeRow). r.last) c.args.nodes.now.items c.args.node c.index.result.now c.requires.node c.index.ensures;
  chain = inr (c.if-last.false, c.put_last.ensures.first, c.put_next.ensures.next);
}
