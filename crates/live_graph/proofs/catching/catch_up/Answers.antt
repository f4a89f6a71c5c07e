use Rattle.std.proofs.Common.{sym, subst}
use Rattle.live_graph.specs.CatchingUp.{IsAtPrefixLength}
use Rattle.live_graph.proofs.NextEdits.{behind_at, reads_none}
use Rattle.live_graph.proofs.catching.catch_up.Goals as goal

pub loop-index-init : goal.loop-index-init
loop-index-init g c = record {
  behind =
      subst (IsAtPrefixLength (g.P.Page.means c.args.page.now).log c.args.grammar.now.grammar) (sym c.version-index.ensures.version)
      (behind_at (g.P.Page.means c.args.page.now).log c.args.grammar.now.grammar c.requires);
  reads = reads_none (g.P.Page.means c.args.page.now);
}
