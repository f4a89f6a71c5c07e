use Rattle.std.proofs.Common.{List, rules, sym, subst}
use Rattle.std.specs.List.Sorted.{IsStrictlySortedBy}
use Rattle.std.specs.Ordering.{nat_cmp}
use Rattle.std.proofs.lemmas.Fn.{always_returns_same}
use Rattle.forest.specs.declared.symbols.SymbolId.{SymbolId}
use Rattle.item_sets.specs.declared.item.Item.{Item}
use Rattle.item_sets.specs.Orders.{move_cmp}
use Rattle.item_sets.proofs.MoveSearches.{found}
use Rattle.item_sets.proofs.expansion.has_move.Goals as goal

pub returns : goal.returns
returns c =
    let answer = c.binary_search_by-found.ensures in
    let position = answer.position (λ (m : SymbolId × List Item). nat_cmp m.0.0 c.args.symbol.0) (always_returns_same _ _ _ (λ a r f h. search rules)) in
    let sorted = subst (λ (moves : List (SymbolId × List Item)). IsStrictlySortedBy move_cmp moves)
    (sym c.as_slice.ensures) c.args.expansion.now.moves_ascend in
    rw (c.is_ok.ensures.value, sym c.as_slice.ensures) (found c.as_slice.result.now sorted c.args.symbol c.binary_search_by-found.result answer.bound position)
