use Rattle.gss.proofs.Columns.{puts_last}
use Rattle.gss.proofs.rows.put_last.Goals as goal

pub returns : goal.returns
returns c = puts_last c.args.nodes.now.items c.args.node c.args.link c.index_mut.result.now c.index_mut.ensures.value
