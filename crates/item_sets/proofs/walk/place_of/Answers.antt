use Rattle.std.proofs.Common.{rules}
use Rattle.std.specs.Ordering.{nat_cmp}
use Rattle.std.proofs.lemmas.Fn.{always_returns_same}
use Rattle.forest.specs.declared.rules.Rule.{Rule}
use Rattle.edit_log.proofs.NumberSearches.{searched}
use Rattle.item_sets.proofs.walk.place_of.Goals as goal

pub returns : goal.returns
returns c =
    let answer = c.binary_search_by-found.ensures in
    let position = answer.position (λ (r : Rule). nat_cmp r.number.0 c.args.number.0) (always_returns_same _ _ _ (λ a r f h. search rules)) in
    rw c.ok.ensures.value
    (searched (λ (r : Rule). r.number.0) c.args.rules.now c.requires c.args.number.0 c.binary_search_by-found.result answer.bound position)
