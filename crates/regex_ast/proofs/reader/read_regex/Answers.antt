-- The answer is that of the state after the last byte.
use Rattle.std.proofs.lemmas.Result.{err_from_is_err_and, IfOk-weaker}
use Rattle.regex_ast.specs.Expressions.{tree_of}
use Rattle.regex_ast.specs.Held.{state_of}
use Rattle.regex_ast.proofs.CountLemmas.{within_few}
use Rattle.regex_ast.proofs.ReadLemmas.{not_stopped, stop_is_cause, found_answer, only_answer, only_match, cause_match}
use Rattle.regex_ast.proofs.reader.read_regex.Goals as goal

pub returns-in_err-reader-clause-only : goal.returns-in_err-reader-clause-only
returns-in_err-reader-clause-only c = λ e h.
    let p = err_from_is_err_and c.from_residual.result c.from_residual.ensures.1 in
    rw (p.1, p.2) (not_stopped c.args.text.now e _ h c.in_err-reader.ensures.stops)

pub returns-in_err-reader-clause-exact : goal.returns-in_err-reader-clause-exact
returns-in_err-reader-clause-exact c =
    let p = err_from_is_err_and c.from_residual.result c.from_residual.ensures.1 in
    rw (p.1, p.2) (stop_is_cause c.args.text.now _ c.in_err-reader.ensures.stops)

pub returns-clause-found : goal.returns-clause-found
returns-clause-found c =
    IfOk-weaker c.finish.result _ _ (λ r k. found_answer c.args.text.now (state_of c.in_ok-reader.reader) _ (tree_of r) c.in_ok-reader.ensures.stands k)
    c.finish.ensures.read

pub returns-clause-only : goal.returns-clause-only
returns-clause-only c = λ e h.
    only_match c.finish.result _ e (only_answer c.args.text.now e (state_of c.in_ok-reader.reader) _ h c.in_ok-reader.ensures.stands) c.finish.ensures.read
    c.finish.ensures.refused

pub returns-clause-exact : goal.returns-clause-exact
returns-clause-exact c = cause_match c.finish.result c.args.text.now (state_of c.in_ok-reader.reader) c.in_ok-reader.ensures.stands c.finish.ensures.refused

pub returns-clause-few : goal.returns-clause-few
returns-clause-few c =
    IfOk-weaker c.finish.result _ _ (λ r k. within_few c.args.text.now (tree_of r) (found_answer c.args.text.now (state_of c.in_ok-reader.reader) _
    (tree_of r) c.in_ok-reader.ensures.stands k)) c.finish.ensures.read
