use Rattle.std.proofs.Common.{◌≡◌, map}
use Rattle.regex_ast.specs.Bytes.{numbers_from}
use Rattle.regex_ast.specs.Links.{next_below}
use Rattle.regex_ast.proofs.positions.in_line.Given as goal

abbrev pub invariant-loop-number : goal.invariant-loop-number
invariant-loop-number l = l.rows.items ≡ map (next_below l.count) (numbers_from 0 l.number)
