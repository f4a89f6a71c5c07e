use Rattle.std.proofs.Common.{◌≡◌, filter}
use Rattle.regex_ast.specs.Bytes.{has, numbers_from}
use Rattle.regex_ast.proofs.positions.ascending.Given as goal

abbrev pub invariant-loop-number : goal.invariant-loop-number
invariant-loop-number l = l.numbers.items ≡ filter (has l.set) (numbers_from 0 l.number)
