use Rattle.std.proofs.Common.{◌≡◌, List, IfSome, IfNone, Some, slice_get, subst}
use Rattle.gss.specs.declared.rows.NodeRow.{NodeRow}
use Rattle.gss.specs.PlaceGraphs.{PlaceGraph, HasNode, place_with}
use Rattle.gss.specs.Rows.{places}
use Rattle.gss.proofs.stack_graph.StackGraph.find_node.Goals as goal

pub returns-clause-found : goal.returns-clause-found
returns-clause-found c =
    subst (λ (g : PlaceGraph). IfSome c.find_place.result (λ n. slice_get g.nodes n ≡ Some (place_with c.args.state c.args.at))) c.self.view_is
    (subst (λ (rows : List NodeRow). IfSome c.find_place.result (λ n. slice_get (places rows) n ≡ Some
    (place_with c.args.state c.args.at))) c.deref.ensures.value
    c.find_place.ensures.found)

pub returns-clause-none : goal.returns-clause-none
returns-clause-none c =
    subst (λ (g : PlaceGraph). IfNone c.find_place.result (HasNode g.nodes c.args.state c.args.at → ⊥)) c.self.view_is
    (subst (λ (rows : List NodeRow). IfNone c.find_place.result (HasNode (places rows) c.args.state c.args.at → ⊥)) c.deref.ensures.value
    c.find_place.ensures.none)
