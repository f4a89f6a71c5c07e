-- The numbers of a literal stand in line.
use Rattle.std.proofs.Common.{arith, ap, sym, ◌≡◌, ◌∙◌, length}
use Rattle.regex_ast.specs.Links.{next_below}
use Rattle.regex_ast.proofs.TableLemmas.{table_of_literal, length_rows, length_only}
use Rattle.regex_ast.proofs.positions.Positions.of_literal.Goals as goal

pub invariant_of-result : goal.invariant_of-result
invariant_of-result c =
    let rows : length c.in_ok-in_line.field-0 ≡ length c.args.bytes.now = ap length c.in_ok-in_line.ensures ∙ length_rows
    (next_below (length c.args.bytes.now)) 0 (length c.args.bytes.now) in
    let sets : length c.in_ok-one_each.field-0 ≡ length c.args.bytes.now = ap length c.in_ok-one_each.ensures ∙ length_only c.args.bytes.now in
    (rows ∙ sym sets, omega arith)

pub returns : goal.returns
returns c =
    table_of_literal c.args.bytes.now c.requires.some _ _ _ _
    c.in_ok-one_number.ensures c.in_ok-one_number-2.ensures c.in_ok-in_line.ensures c.in_ok-one_each.ensures
