use Rattle.std.proofs.Common.{◌≡◌, ◌++◌, take}
use Rattle.std.specs.List.{flat_map}
use Rattle.forest_print.specs.Lines.{cut_text}
use Rattle.forest_print.proofs.forest_lines.put_cuts.Given as goal

abbrev pub invariant-loop-cut : goal.invariant-loop-cut
invariant-loop-cut l = l.lines ≡ l.initial.lines ++ flat_map cut_text (take l.cut-index l.cuts)
