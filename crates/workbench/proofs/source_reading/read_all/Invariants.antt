use Rattle.std.proofs.Common.{◌≤◌, ◌+◌, ◌-◌, vec_len}
use Rattle.bench_io.specs.Known.{Gives}
use Rattle.workbench.proofs.source_reading.read_all.Given as goal

-- the source gave the bytes that were kept, and at most one more than is allowed
abbrev pub invariant-pieces : goal.invariant-pieces
invariant-pieces g l = record {
  given : Gives (g.S.Source.left l.initial.source) (g.S.Source.left l.source) l.bytes.items;
  within : vec_len l.bytes ≤ l.limit + 1;
  counted : g.S.Source.faults l.initial.source ≤ g.S.Source.faults l.source;
}

abbrev pub decreases-pieces : goal.decreases-pieces
decreases-pieces g l = l.limit + 1 - vec_len l.bytes
