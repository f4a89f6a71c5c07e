use Rattle.std.proofs.Common.{◌≡◌, ◌++◌, take}
use Rattle.std.specs.List.{flat_map}
use Rattle.forest_print.specs.Lines.{split_line}
use Rattle.forest_print.proofs.forest_lines.put_splits.Given as goal

abbrev pub invariant-loop-split : goal.invariant-loop-split
invariant-loop-split l = l.lines ≡ l.initial.lines ++ flat_map split_line (take l.split-index l.splits)
