use Rattle.gss.proofs.Columns.{puts_next}
use Rattle.gss.proofs.rows.put_next.Goals as goal

pub returns : goal.returns
returns c = puts_next c.args.links.now.items c.args.before c.args.link c.index_mut.result.now c.index_mut.ensures.value
