use Rattle.std.proofs.Common.{sym, subst}
use Rattle.forest.specs.declared.nodes.Node.{Node}
use Rattle.forest.specs.Nodes.{IsAt}
use Rattle.forest.proofs.forest.Forest.get.Goals as goal

pub returns-in_err-at-clause-none : goal.returns-in_err-at-clause-none
returns-in_err-at-clause-none c = rw c.from_residual.ensures (rw c.as_slice-nodes.ensures at c.in_err-at.ensures.none)

pub returns-clause-found : goal.returns-clause-found
returns-clause-found c =
    let position = rw c.as_slice-nodes.ensures at c.in_ok-at.ensures.found in
    let is = rw c.as_slice-nodes.ensures at c.index-nodes-at.is in (
      (c.in_ok-at.at, position.within, sym is),
      subst (λ (node : Node). IsAt node c.args.symbol c.args.from c.args.to) (sym is) (position.here c.index-nodes-at.result),
    )
