use Rattle.std.proofs.Common.{◌≡◌, ◌++◌, map}
use Rattle.plain_chart.specs.Cuts.{split_of}
use Rattle.plain_chart.proofs.cuts.add_splits.Given as goal

abbrev pub invariant-loop-cuts : goal.invariant-loop-cuts
invariant-loop-cuts l = l.found.items ≡ l.fn.found.items ++ map (split_of l.rule) l.yielded
