use Rattle.std.proofs.Common.{rules}
use Rattle.std.proofs.lemmas.Fn.{always_returns_same}
use Rattle.forest.specs.declared.nodes.Node.{Node}
use Rattle.forest.specs.Orders.{span_cmp}
use Rattle.forest.proofs.Searches.{found, absent}
use Rattle.forest.proofs.forest.position_of.Goals as goal

pub returns-clause-found : goal.returns-clause-found
returns-clause-found c =
    let position = c.binary_search_by.ensures.position (λ (node : Node). span_cmp node c.args.symbol c.args.from c.args.to)
    (always_returns_same _ _ _ (λ a r f h. search rules)) in
    rw c.ok.ensures.value (found _ c.requires _ _ _ _ c.binary_search_by.ensures.bound position)

pub returns-clause-none : goal.returns-clause-none
returns-clause-none c =
    let position = c.binary_search_by.ensures.position (λ (node : Node). span_cmp node c.args.symbol c.args.from c.args.to)
    (always_returns_same _ _ _ (λ a r f h. search rules)) in
    rw c.ok.ensures.value (absent _ c.requires _ _ _ _ position)
