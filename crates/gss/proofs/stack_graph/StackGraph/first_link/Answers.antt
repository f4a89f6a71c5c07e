use Rattle.std.proofs.Common.{IfSome, IfNone, subst, arith}
use Rattle.gss.specs.Numbers.{IsLeast, HasNone}
use Rattle.gss.specs.PlaceGraphs.{PlaceGraph, LeadsDownFrom}
use Rattle.gss.proofs.Reading.{no_first, first_told}
use Rattle.gss.proofs.stack_graph.StackGraph.first_link.Goals as goal

pub returns-then-node-len-clause-none : goal.returns-then-node-len-clause-none
returns-then-node-len-clause-none c = subst (λ (g : PlaceGraph). HasNone (LeadsDownFrom g.links c.args.node)) c.self.view_is
    (no_first c.self.inside.nodes.items c.self.inside.links.items c.self.invariant.1 c.args.node (omega (arith, c.self.inside.nodes.ok.0)))

pub returns-clause-first : goal.returns-clause-first
returns-clause-first c = subst (λ (g : PlaceGraph). IfSome c.told.result (IsLeast (LeadsDownFrom g.links c.args.node))) c.self.view_is
    (first_told c.self.inside.nodes.items c.self.inside.links.items c.self.invariant.1 c.args.node c.index.result.now c.told.result
    (omega (arith, c.self.inside.nodes.ok.0)) c.index.ensures (record { some = c.told.ensures.some; nothing = c.told.ensures.none })).0

pub returns-clause-none : goal.returns-clause-none
returns-clause-none c = subst (λ (g : PlaceGraph). IfNone c.told.result (HasNone (LeadsDownFrom g.links c.args.node))) c.self.view_is
    (first_told c.self.inside.nodes.items c.self.inside.links.items c.self.invariant.1 c.args.node c.index.result.now c.told.result
    (omega (arith, c.self.inside.nodes.ok.0)) c.index.ensures (record { some = c.told.ensures.some; nothing = c.told.ensures.none })).1
