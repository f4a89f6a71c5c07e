use Rattle.std.proofs.Common.{◌≡◌, ◌∙◌, ap, length, refl}
use Rattle.regex_ast.specs.Expressions.{tree_of, classes_of}
use Rattle.regex_ast.proofs.MarkLemmas.{length-classes_of}
use Rattle.regex_ast.proofs.positions.classes_of.Goals as goal

pub returns-clause-count : goal.returns-clause-count
returns-clause-count c =
    let all : c.from_vec.result ≡ classes_of (tree_of c.args.regex.now) = rw (c.from_vec.ensures, c.in_ok-collect.ensures, c.new-classes.ensures.items) refl in
    ap length all ∙ length-classes_of (tree_of c.args.regex.now)
