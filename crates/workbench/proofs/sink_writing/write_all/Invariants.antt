use Rattle.std.proofs.Common.{◌≤◌, ◌-◌, length, take}
use Rattle.bench_io.specs.Known.{Takes}
use Rattle.workbench.proofs.sink_writing.write_all.Given as goal

-- the sink took the bytes that are counted as written
abbrev pub invariant-writes : goal.invariant-writes
invariant-writes g l = record {
  taken : Takes (g.K.Sink.taken l.initial.sink) (g.K.Sink.taken l.sink) (take l.written l.bytes);
  within : l.written ≤ length l.bytes;
  counted : g.K.Sink.faults l.initial.sink ≤ g.K.Sink.faults l.sink;
}

abbrev pub decreases-writes : goal.decreases-writes
decreases-writes g l = length l.bytes - l.written
