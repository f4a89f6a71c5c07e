use Rattle.std.proofs.Common.{arith, refl}
use Rattle.std.proofs.lemmas.Bool.{ltb-true}
use Rattle.graph_content_tests.proofs.Members.{mark_there}
use Rattle.graph_content_tests.proofs.scan_rows.is_mark.Goals as goal

pub returns-in-Some : goal.returns-in-Some
returns-in-Some c = λ within. record {
  is =
      mark_there c.args.grammar.now.grammar c.args.mark c.in-Some.positions.now (c.in-Some.ensures.live.0 refl) c.in-Some.ensures.positions
      (omega (arith, ltb-true _ _ within, c.count.ensures.count));
}
