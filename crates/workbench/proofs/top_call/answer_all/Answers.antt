use Rattle.workbench.proofs.RunSteps.{on_err, stops_at_first}
use Rattle.workbench.proofs.top_call.answer_all.Goals as goal

pub returns-in_err-server-clause-front : goal.returns-in_err-server-clause-front
returns-in_err-server-clause-front g c = on_err c.from_residual.result (stops_at_first c.args.stats (g.K.Sink.taken c.args.sink.now) c.args.blocks.now)
