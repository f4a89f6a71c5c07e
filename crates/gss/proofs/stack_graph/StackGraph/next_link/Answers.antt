use Rattle.std.proofs.Common.{IfSome, IfNone, subst, arith}
use Rattle.gss.specs.Numbers.{IsLeast, HasNone}
use Rattle.gss.specs.PlaceGraphs.{PlaceGraph, LeadsFromSame}
use Rattle.gss.proofs.Reading.{next_told}
use Rattle.gss.proofs.stack_graph.StackGraph.next_link.Goals as goal

pub returns-clause-next : goal.returns-clause-next
returns-clause-next c = subst (λ (g : PlaceGraph). IfSome c.told.result (IsLeast (LeadsFromSame g.links c.args.link))) c.self.view_is
    (next_told c.self.inside.nodes.items c.self.inside.links.items c.self.invariant.1 c.args.link c.index.result.now c.told.result
    (omega (arith, c.self.inside.links.ok.0)) c.index.ensures (record { some = c.told.ensures.some; nothing = c.told.ensures.none })).0

pub returns-clause-none : goal.returns-clause-none
returns-clause-none c = subst (λ (g : PlaceGraph). IfNone c.told.result (HasNone (LeadsFromSame g.links c.args.link))) c.self.view_is
    (next_told c.self.inside.nodes.items c.self.inside.links.items c.self.invariant.1 c.args.link c.index.result.now c.told.result
    (omega (arith, c.self.inside.links.ok.0)) c.index.ensures (record { some = c.told.ensures.some; nothing = c.told.ensures.none })).1
