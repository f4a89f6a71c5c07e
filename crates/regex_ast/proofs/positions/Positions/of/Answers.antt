-- What is computed part by part is the table of the expression.
use Rattle.std.proofs.Common.{◌≡◌, ℕ, ◌∙◌, ap, sym, length, refl, replicate, []}
use Rattle.regex_ast.specs.Expressions.{tree_of, class_count}
use Rattle.regex_ast.proofs.TableLemmas.{table_is, rows_from_none, rows_are}
use Rattle.regex_ast.proofs.positions.Positions.of.Goals as goal

pub returns : goal.returns
returns c =
    let count : ℕ = length c.as_slice-count.result.now in
    let many : count ≡ class_count (tree_of c.args.regex.now) = ap length c.as_slice-count.ensures ∙ c.in_ok-classes.ensures.count in
    let empty : c.as_mut_slice-links.result.now ≡ replicate count [] = c.as_mut_slice-links.ensures.value ∙ c.in_ok-rows.ensures.rows in
    let long : length c.link-part.new.rows ≡ count = c.link-part.auto.rows ∙ ap length c.as_mut_slice-links.ensures.value ∙ c.in_ok-rows.ensures.count in
    table_is (tree_of c.args.regex.now) count (sym many) c.link-part.result.nullable c.link-part.ensures.nullable
    c.link-part.result.first c.link-part.result.last c.link-part.new.rows long
    c.link-part.ensures.first c.link-part.ensures.last
    (rows_from_none c.as_mut_slice-links.result.now c.link-part.new.rows count (tree_of c.args.regex.now) empty c.link-part.ensures.rows)
    _ _ _ _ c.in_ok-ascending.ensures c.in_ok-ascending-2.ensures
    (rows_are c.link-part.new.rows c.link-part.new.rows count refl long _ c.in_ok-ascending_rows.ensures)
    c.in_ok-classes.ensures.classes
