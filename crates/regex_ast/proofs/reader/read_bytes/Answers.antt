-- A byte that may stand leads on, and another stops the text.
use Rattle.std.proofs.Common.{◌≤◌, ◌+◌, arith}
use Rattle.std.proofs.lemmas.Result.{err_from_is_err_and}
use Rattle.regex_ast.specs.Held.{state_of}
use Rattle.regex_ast.proofs.ReadLemmas.{goes_on, stops_here}
use Rattle.regex_ast.proofs.reader.read_bytes.Goals as goal

pub returns-in_err-reader-clause-stops : goal.returns-in_err-reader-clause-stops
returns-in_err-reader-clause-stops c =
    let p = err_from_is_err_and c.from_residual.result c.from_residual.ensures.1 in
    rw (p.1, p.2) (stops_here c.args.text.now c.loop-at.at (state_of c.loop-at.reader) _ c.loop-at-test.true c.loop-at.invariant.0
    c.in_err-reader.ensures.stops)

pub loop-at-preserved : goal.loop-at-preserved
loop-at-preserved c =
    let few : c.in_ok-reader.reader.breaches.classes ≤ c.loop-at.at + 1 = omega (arith, c.in_ok-reader.ensures.few, c.loop-at.invariant.1) in (
      goes_on c.args.text.now c.loop-at.at (state_of c.loop-at.reader) (state_of c.in_ok-reader.reader) c.loop-at-test.true c.loop-at.invariant.0
          c.in_ok-reader.ensures.stands,
      few,
    )
