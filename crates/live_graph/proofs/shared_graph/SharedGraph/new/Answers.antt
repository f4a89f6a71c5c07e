use Rattle.std.proofs.Common.{ap}
use Rattle.live_graph.proofs.Keeping.{kept_at_first}
use Rattle.live_graph.proofs.shared_graph.SharedGraph.new.Goals as goal

pub invariant_of-result : goal.invariant_of-result
invariant_of-result g c =
    kept_at_first c.args.grammar.now.grammar (g.P.Page.means c.of-basis.result.value) (g.P.Page.means c.args.page) c.new.result.entries
    c.new-2.result.entries c.requires (ap g.P.Page.means c.of-basis.ensures) c.new.ensures.empty c.new-2.ensures.empty
