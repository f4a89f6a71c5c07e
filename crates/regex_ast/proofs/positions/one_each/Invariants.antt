use Rattle.std.proofs.Common.{◌≡◌, map, take}
use Rattle.regex_ast.specs.Bytes.{only}
use Rattle.regex_ast.proofs.positions.one_each.Given as goal

abbrev pub invariant-loop-byte : goal.invariant-loop-byte
invariant-loop-byte l = l.sets.items ≡ map only (take l.byte-index l.bytes)
