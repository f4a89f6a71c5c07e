use Rattle.std.proofs.Common.{◌≡◌}
use Rattle.graph_content_tests.proofs.item_rows.judge_all.Given as goal

abbrev pub invariant-loop-kernel : goal.invariant-loop-kernel
invariant-loop-kernel l = l.modify.grammar ≡ l.fn.modify.grammar
