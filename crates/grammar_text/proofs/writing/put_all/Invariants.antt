use Rattle.std.proofs.Common.{◌≡◌, drop}
use Rattle.std.specs.List.{fold}
use Rattle.grammar_text.proofs.writing.put_all.Given as goal

abbrev pub invariant-loop-byte : goal.invariant-loop-byte
invariant-loop-byte g l = fold g.O.Output.after l.out (drop l.byte-index l.bytes) ≡ fold g.O.Output.after l.fn.out l.bytes
