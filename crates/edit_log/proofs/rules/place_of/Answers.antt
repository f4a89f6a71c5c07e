use Rattle.std.proofs.Common.{◌≡◌, ◌==◌, List, find, slice_get, Some, option_map, rules, sym, subst}
use Rattle.std.specs.List.Sorted.{IsStrictlySortedBy}
use Rattle.std.specs.Ordering.{nat_cmp}
use Rattle.std.specs.Result.{result_ok}
use Rattle.std.proofs.lemmas.Fn.{always_returns_same}
use Rattle.forest.specs.declared.rules.Rule.{Rule}
use Rattle.forest.specs.Orders.{rule_cmp}
use Rattle.edit_log.proofs.NumberSearches.{searched}
use Rattle.edit_log.proofs.rules.place_of.Goals as goal

pub returns : goal.returns
returns c =
    let answer = c.binary_search_by-found.ensures in
    let position = answer.position (λ (r : Rule). nat_cmp r.number.0 c.args.number.0) (always_returns_same _ _ _ (λ a r f h. search rules)) in
    let sorted = subst (λ (rules : List Rule). IsStrictlySortedBy rule_cmp rules) (sym c.as_slice.ensures) c.args.rules.now.ascending in
    let h = searched (λ (r : Rule). r.number.0) c.as_slice.result.now sorted c.args.number.0 c.binary_search_by-found.result answer.bound position in
    rw c.ok.ensures.value (subst (λ (rules : List Rule). option_map (λ place. slice_get rules place) (result_ok c.binary_search_by-found.result)
    ≡ option_map Some (find (λ r. r.number.0 == c.args.number.0) rules)) c.as_slice.ensures h)
