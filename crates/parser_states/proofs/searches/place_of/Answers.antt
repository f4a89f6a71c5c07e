use Rattle.std.proofs.Common.{rules}
use Rattle.std.specs.Ordering.{nat_cmp}
use Rattle.std.specs.List.Sorted.{IsBinarySearchResult}
use Rattle.std.proofs.lemmas.Fn.{always_returns_same}
use Rattle.forest.specs.declared.symbols.SymbolId.{SymbolId}
use Rattle.parser_states.proofs.SymbolSearches.{found_place, no_place}
use Rattle.parser_states.proofs.searches.place_of.Goals as goal

searched : (c : goal.After-ok) → IsBinarySearchResult (λ (y : SymbolId). nat_cmp y.0 c.args.symbol.0) c.args.symbols.now c.binary_search_by.result
searched c = c.binary_search_by.ensures.position (λ (y : SymbolId). nat_cmp y.0 c.args.symbol.0) (always_returns_same _ _ _ (λ a r f h. search rules))

pub returns-clause-found : goal.returns-clause-found
returns-clause-found c =
    rw c.ok.ensures.value (found_place c.args.symbols.now c.args.symbol c.binary_search_by.result c.binary_search_by.ensures.bound (searched c))

pub returns-clause-none : goal.returns-clause-none
returns-clause-none c = rw c.ok.ensures.value (no_place c.args.symbols.now c.args.symbol c.binary_search_by.result (searched c))
