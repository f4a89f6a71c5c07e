use Rattle.std.proofs.Common.{◌≡◌, map, take, filter, length}
use Rattle.regex_ast.specs.Bytes.{has, numbers_from}
use Rattle.regex_ast.proofs.positions.ascending_rows.Given as goal

abbrev pub invariant-loop-row : goal.invariant-loop-row
invariant-loop-row l = l.lists.items ≡ map (λ row. filter (has row) (numbers_from 0 (length l.rows))) (take l.row-index l.rows)
