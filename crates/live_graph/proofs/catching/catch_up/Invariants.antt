use Rattle.slot_store.specs.Answers.{ReadsLog}
use Rattle.live_graph.specs.CatchingUp.{IsAtPrefixLength}
use Rattle.live_graph.proofs.catching.catch_up.Given as goal

abbrev pub invariant-loop-index : goal.invariant-loop-index
invariant-loop-index g l = record {
  behind : IsAtPrefixLength (g.P.Page.means l.fn.page).log l.grammar.grammar l.index;
  reads : ReadsLog (g.P.Page.means l.fn.page) (g.P.Page.means l.page);
}
