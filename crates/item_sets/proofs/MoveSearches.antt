-- What a binary search among moves finds.
use Rattle.std.proofs.Common.{◌≡◌, ℕ, ◌↔◌, List, [], length, get_or, refl, ◌∙◌, ap, Contains, Result, Ok, Err, IsTrue}
use Rattle.std.proofs.lemmas.List.{get_or_default}
use Rattle.std.proofs.lemmas.Map.Lookups.{exact_unsigned}
use Rattle.std.specs.List.Sorted.{IsStrictlySortedBy, IsSearchInRange, IsBinarySearchResult}
use Rattle.std.specs.Ordering.{nat_cmp}
use Rattle.std.specs.declared.cmp.Ordering.TheVariants.{Equal}
use Rattle.std.specs.Result.{is_ok}
use Rattle.forest.specs.declared.symbols.SymbolId.{SymbolId}
use Rattle.edit_log.proofs.NumberSearches.{there_found}
use Rattle.item_sets.specs.declared.item.Item.{Item}
use Rattle.item_sets.specs.Orders.{move_cmp}

module _ (moves : List (SymbolId × List Item)) (sorted : IsStrictlySortedBy move_cmp moves) (x : SymbolId) where
  symbol_same : (m : SymbolId × List Item) → nat_cmp m.0.0 x.0 ≡ Equal → m ≡ (x, m.1)
  symbol_same m e = let f : ℕ → SymbolId × List Item = λ n. (record { 0 = n }, m.1) in ap f (exact_unsigned m.0.0 x.0 e)

  pub found : (r : Result ℕ ℕ) → IsSearchInRange r (length moves) → IsBinarySearchResult (λ m. nat_cmp m.0.0 x.0) moves r
      → IsTrue (is_ok r) ↔ ((upper : List Item) × Contains moves (x, upper))
  found (Ok at) range h = (
    λ t. let m = get_or moves at (x, []) in (m.1, (at, range, get_or_default moves at (x, m.1) (x, []) range ∙ symbol_same m (h (x, [])))),
    λ c. refl,
  )
  found (Err at) range h = (
    λ t. absurd cc,
    λ c. let there = there_found (λ (m : SymbolId × List Item). m.0.0) moves sorted x.0 (Err at) (x, c.0) c.1 refl h in absurd (let e = there.1 in cc),
  )
