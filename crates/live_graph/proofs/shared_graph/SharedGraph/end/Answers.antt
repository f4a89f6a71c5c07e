use Rattle.std.proofs.Common.{subst}
use Rattle.live_graph.specs.Ending.{EndsShown}
use Rattle.live_graph.specs.Growing.{TellsGraph}
use Rattle.live_graph.proofs.Keeping.{kept_ends}
use Rattle.live_graph.proofs.shared_graph.SharedGraph.end.Goals as goal

pub returns-clause-ends : goal.returns-clause-ends
returns-clause-ends g c =
    subst EndsShown c.self.view_is
    (kept_ends c.self.inside.grammar.now.grammar (g.P.Page.means c.self.inside.basis.value) (g.P.Page.means c.self.inside.page)
    c.self.inside.scans.entries c.self.inside.kernels.entries c.self.invariant)

pub returns-clause-graph : goal.returns-clause-graph
returns-clause-graph g c = subst TellsGraph c.self.view_is c.self.invariant.graph
