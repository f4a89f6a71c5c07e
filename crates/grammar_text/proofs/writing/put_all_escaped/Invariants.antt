use Rattle.std.proofs.Common.{◌≡◌, drop}
use Rattle.std.specs.List.{fold, flat_map}
use Rattle.grammar_text.specs.Canonical.{escaped}
use Rattle.grammar_text.proofs.writing.put_all_escaped.Given as goal

abbrev pub invariant-loop-byte : goal.invariant-loop-byte
invariant-loop-byte g l =
    fold g.O.Output.after l.out (flat_map escaped (drop l.byte-index l.bytes)) ≡ fold g.O.Output.after l.fn.out (flat_map escaped l.bytes)
