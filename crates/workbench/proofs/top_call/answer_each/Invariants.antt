use Rattle.std.proofs.Common.{◌≤◌, take}
use Rattle.workbench.specs.Serving.{HasBench}
use Rattle.workbench.proofs.BenchSteps.{IsServed}
use Rattle.workbench.proofs.top_call.answer_each.Given as goal

abbrev pub invariant-loop-block : goal.invariant-loop-block
invariant-loop-block g l = record {
  served : HasBench l.server.bench
      (IsServed l.stats (g.K.Sink.taken l.initial.sink) (g.K.Sink.taken l.sink) (take l.block-index l.blocks) l.server.grammar l.out.items);
  counted : g.K.Sink.faults l.initial.sink ≤ g.K.Sink.faults l.sink;
}
