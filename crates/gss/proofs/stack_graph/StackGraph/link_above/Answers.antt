use Rattle.std.proofs.Common.{List, IfNone, sym, subst, arith}
use Rattle.gss.specs.declared.rows.LinkRow.{LinkRow}
use Rattle.gss.specs.Numbers.{HasNone}
use Rattle.gss.specs.PlaceGraphs.{PlaceGraph, LeadsToBy}
use Rattle.gss.specs.Chains.{IsKeyAt, TellsGreatest, AreOlders}
use Rattle.gss.specs.Rows.{edges, lowers, olders}
use Rattle.gss.proofs.Reading.{no_above, above_told}
use Rattle.gss.proofs.stack_graph.StackGraph.link_above.Goals as goal

pub returns-then-lower-len-clause-none : goal.returns-then-lower-len-clause-none
returns-then-lower-len-clause-none c =
    subst (λ (g : PlaceGraph). HasNone (LeadsToBy g.links c.args.lower c.args.symbol c.args.from)) c.self.view_is
    (no_above c.self.inside.nodes.items c.self.inside.links.items c.self.invariant.1 c.args.lower c.args.from c.args.symbol
    (omega (arith, c.self.inside.nodes.ok.0)))

pub find_above-requires-clause-older : goal.find_above-requires-clause-older
find_above-requires-clause-older c =
    subst (λ (rows : List LinkRow). AreOlders (lowers (edges rows)) (olders rows)) (sym c.deref.ensures.value) c.self.invariant.1.older

pub find_above-requires-clause-newest : goal.find_above-requires-clause-newest
find_above-requires-clause-newest c =
    subst (λ (rows : List LinkRow). TellsGreatest (IsKeyAt (lowers (edges rows)) c.args.lower) c.index.result.now.above) (sym c.deref.ensures.value)
    (above_told c.self.inside.nodes.items c.self.inside.links.items c.self.invariant.1 c.args.lower c.index.result.now (omega (arith, c.self.inside.nodes.ok.0))
    c.index.ensures)

pub returns-clause-none : goal.returns-clause-none
returns-clause-none c =
    subst (λ (g : PlaceGraph). IfNone c.find_above.result (HasNone (LeadsToBy g.links c.args.lower c.args.symbol c.args.from))) c.self.view_is
    (subst (λ (rows : List LinkRow). IfNone c.find_above.result (HasNone (LeadsToBy (edges rows) c.args.lower c.args.symbol c.args.from))) c.deref.ensures.value
    c.find_above.ensures.none)
