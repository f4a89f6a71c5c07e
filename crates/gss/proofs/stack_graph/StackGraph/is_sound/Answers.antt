use Rattle.std.proofs.Common.{◌<◌, ◌^◌, length, subst, arith}
use Rattle.gss.specs.PlaceGraphs.{PlaceGraph, AreNodesDistinct, AreEndsNodes}
use Rattle.gss.proofs.Reading.{ends_within, few_edges}
use Rattle.gss.proofs.stack_graph.StackGraph.is_sound.Goals as goal

pub returns-clause-distinct : goal.returns-clause-distinct
returns-clause-distinct c = subst (λ (g : PlaceGraph). AreNodesDistinct g.nodes) c.self.view_is c.self.invariant.0.distinct

pub returns-clause-ends : goal.returns-clause-ends
returns-clause-ends c = subst (λ (g : PlaceGraph). AreEndsNodes g) c.self.view_is
    (ends_within c.self.inside.nodes.items c.self.inside.links.items c.self.invariant.1)

pub returns-clause-few_nodes : goal.returns-clause-few_nodes
returns-clause-few_nodes c = subst (λ (g : PlaceGraph). length g.nodes < 2 ^ 32) c.self.view_is c.self.invariant.0.few

pub returns-clause-few_links : goal.returns-clause-few_links
returns-clause-few_links c = subst (λ (g : PlaceGraph). length g.links < 2 ^ 32) c.self.view_is (omega (
  arith,
  few_edges c.self.inside.nodes.items c.self.inside.links.items c.self.invariant.1,
  c.self.invariant.1.few,
))
