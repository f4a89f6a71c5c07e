use Rattle.std.proofs.Common.{◌≡◌}
use Rattle.graph_content_tests.proofs.scan_rows.judge_all.Given as goal

abbrev pub invariant-loop-key : goal.invariant-loop-key
invariant-loop-key l = l.modify.grammar ≡ l.fn.modify.grammar
