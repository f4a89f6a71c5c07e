use Rattle.std.proofs.Common.{IfSome, IfNone, subst, arith}
use Rattle.gss.specs.Numbers.{IsGreatest, HasNone}
use Rattle.gss.specs.PlaceGraphs.{PlaceGraph, IsOfState}
use Rattle.gss.specs.Rows.{places}
use Rattle.gss.proofs.Reading.{no_newest, newest_told}
use Rattle.gss.proofs.stack_graph.StackGraph.newest_node.Goals as goal

pub returns-then-state-len-clause-none : goal.returns-then-state-len-clause-none
returns-then-state-len-clause-none c = subst (λ (g : PlaceGraph). HasNone (IsOfState g.nodes c.args.state)) c.self.view_is
    (no_newest (places c.self.inside.nodes.items) c.self.inside.newest.items c.args.state c.self.invariant.0 (omega (arith, c.self.inside.newest.ok.0)))

pub returns-clause-newest : goal.returns-clause-newest
returns-clause-newest c = subst (λ (g : PlaceGraph). IfSome c.told.result (IsGreatest (IsOfState g.nodes c.args.state))) c.self.view_is
    (newest_told (places c.self.inside.nodes.items) c.self.inside.newest.items c.args.state c.index.result.now c.told.result c.self.invariant.0
    (omega (arith, c.self.inside.newest.ok.0)) c.index.ensures (record { some = c.told.ensures.some; nothing = c.told.ensures.none })).0

pub returns-clause-none : goal.returns-clause-none
returns-clause-none c = subst (λ (g : PlaceGraph). IfNone c.told.result (HasNone (IsOfState g.nodes c.args.state))) c.self.view_is
    (newest_told (places c.self.inside.nodes.items) c.self.inside.newest.items c.args.state c.index.result.now c.told.result c.self.invariant.0
    (omega (arith, c.self.inside.newest.ok.0)) c.index.ensures (record { some = c.told.ensures.some; nothing = c.told.ensures.none })).1
