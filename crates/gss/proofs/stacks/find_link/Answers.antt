use Rattle.std.proofs.Common.{inl, inr, ℕ, Option, subst}
use Rattle.gss.specs.KernelGraphs.{link_of}
use Rattle.gss.proofs.LinkWalks.{IsNotFound, leads_within, fewer, not_found_first, not_found_next, not_there, found_edge}
use Rattle.gss.proofs.stacks.find_link.Goals as goal
use Rattle.gss.proofs.stacks.find_link.Goals.{else-edge-lower-via-then-edge-lower+else-edge-symbol, else-edge-lower-via-else-edge-lower}

pub links-init : goal.links-init
links-init c = not_found_first c.args.graph.now.links (link_of c.args.upper c.args.symbol c.args.lower) c.first_link-next.result
    c.first_link-next.ensures.first c.first_link-next.ensures.none

pub edge-edge-requires : goal.edge-edge-requires
edge-edge-requires c =
    let link = link_of c.args.upper c.args.symbol c.args.lower in
    let so_far = subst (λ (next : Option ℕ). IsNotFound c.args.graph.now.links link next) c.in-Some.is c.links.invariant in
    leads_within c.args.graph.now.links c.args.upper c.in-Some.link so_far.on_way.is

pub returns-then-edge-symbol-clause-found : goal.returns-then-edge-symbol-clause-found
returns-then-edge-symbol-clause-found c =
    let link = link_of c.args.upper c.args.symbol c.args.lower in
    let so_far = subst (λ (next : Option ℕ). IsNotFound c.args.graph.now.links link next) c.in-Some.is c.links.invariant in
    found_edge c.args.graph.now.links c.args.upper c.args.lower c.in-Some.link c.args.symbol c.edge-edge.result c.edge-edge.ensures so_far.on_way.is
    c.if-edge-lower.true c.if-edge-symbol.true

pub links-smaller : goal.links-smaller
links-smaller c =
    let link = link_of c.args.upper c.args.symbol c.args.lower in
    let so_far = subst (λ (next : Option ℕ). IsNotFound c.args.graph.now.links link next) c.in-Some.is c.links.invariant in
    rw c.in-Some.is (fewer c.args.graph.now.links c.args.upper c.in-Some.link c.edge-edge.result c.edge-edge.ensures so_far.on_way.is c.next_link-next.result
    c.next_link-next.ensures.next)

pub links-preserved : goal.links-preserved
links-preserved c =
    let link = link_of c.args.upper c.args.symbol c.args.lower in
    let so_far = subst (λ (next : Option ℕ). IsNotFound c.args.graph.now.links link next) c.in-Some.is c.links.invariant in
    elim c.else-edge-lower.branch [
      | else-edge-lower-via-then-edge-lower+else-edge-symbol w ↦ not_found_next c.args.graph.now.links link c.in-Some.link c.edge-edge.result
          c.next_link-next.result c.edge-edge.ensures (inr w.if-edge-symbol.false) so_far c.next_link-next.ensures.next c.next_link-next.ensures.none
      | else-edge-lower-via-else-edge-lower w ↦ not_found_next c.args.graph.now.links link c.in-Some.link c.edge-edge.result
          c.next_link-next.result c.edge-edge.ensures (inl w.if-edge-lower.false) so_far c.next_link-next.ensures.next c.next_link-next.ensures.none
    ]

pub returns-clause-none : goal.returns-clause-none
returns-clause-none c =
    let link = link_of c.args.upper c.args.symbol c.args.lower in
    not_there c.args.graph.now.links link
    (subst (λ (next : Option ℕ). IsNotFound c.args.graph.now.links link next) c.in_default.is c.links.invariant)
