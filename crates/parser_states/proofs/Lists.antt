-- Plain lists: appended, mapped, sorted.
use Rattle.std.proofs.Common.{◌≡◌, ◌⊎◌, inl, inr, ℕ, zero, suc, ◌+◌, List, [], ◌∷◌, ◌++◌, length, map, set, replicate, Some, None, slice_get}
use Rattle.std.proofs.Common.{refl, sym, ap, arith}
use Rattle.std.specs.List.{AllByRecursion}
use Rattle.std.specs.List.Sorted.{IsStrictlySortedBy}
use Rattle.std.specs.declared.cmp.Ordering.TheVariants.{Less}
use Rattle.forest.specs.declared.symbols.SymbolId.{SymbolId}
use Rattle.forest.specs.Distinct.{IsDistinct}
use Rattle.item_sets.specs.declared.item.Item.{Item}
use Rattle.item_sets.specs.Orders.{move_cmp}
use Rattle.edit_log.proofs.PlainLists.{contains_map}
use Rattle.parser_states.specs.Rows.{symbol_cmp}

-- an element of two lists is one of the first, or of the second
pub append_cases : {X : Type 0} (xs ys : List X) (place : ℕ) (x : X) → slice_get (xs ++ ys) place ≡ Some x
    → (slice_get xs place ≡ Some x) ⊎ ((k : ℕ) × (place ≡ length xs + k) × (slice_get ys k ≡ Some x))
append_cases [] ys place x at = inr (place, omega arith, at)
append_cases (y ∷ xs) ys zero x at = inl at
append_cases (y ∷ xs) ys (suc place) x at = elim (append_cases xs ys place x at) [
  | inl front ↦ inl front
  | inr behind ↦ inr (behind.0, omega (arith, behind.1), behind.2)
]

pub in_replicate : (n x place entry : ℕ) → slice_get (replicate n x) place ≡ Some entry → entry ≡ x
in_replicate zero x place entry at = absurd (let no : None ≡ Some entry = at in cc)
in_replicate (suc n) x zero entry at = let same : Some x ≡ Some entry = at in sym (let e : x ≡ entry = cc in e)
in_replicate (suc n) x (suc place) entry at = in_replicate n x place entry at

-- an element of a list with one element changed is the new one, or one of before
pub set_cases : {X : Type 0} (xs : List X) (i : ℕ) (y : X) (place : ℕ) (x : X) → slice_get (set xs i y) place ≡ Some x
    → ((place ≡ i) × (y ≡ x)) ⊎ (slice_get xs place ≡ Some x)
set_cases [] i y place x at = inr at
set_cases (z ∷ xs) zero y zero x at = inl (refl, let same : Some y ≡ Some x = at in cc)
set_cases (z ∷ xs) zero y (suc place) x at = inr at
set_cases (z ∷ xs) (suc i) y zero x at = inr at
set_cases (z ∷ xs) (suc i) y (suc place) x at = elim (set_cases xs i y place x at) [
  | inl here ↦ inl (let n : suc place ≡ suc i = ap (λ k. suc k) here.0 in n, here.1)
  | inr there ↦ inr there
]

-- what an element of a mapped list comes from
pub map_at : {X Y : Type 0} (f : X → Y) (xs : List X) (place : ℕ) (y : Y) → slice_get (map f xs) place ≡ Some y
    → (x : X) × (slice_get xs place ≡ Some x) × (f x ≡ y)
map_at f [] place y at = absurd (let no : None ≡ Some y = at in cc)
map_at f (x ∷ xs) zero y at = (x, refl, let same : Some (f x) ≡ Some y = at in cc)
map_at f (x ∷ xs) (suc place) y at = map_at f xs place y at

pub distinct_from_map : {X Y : Type 0} (f : X → Y) (xs : List X) → IsDistinct (map f xs) → IsDistinct xs
distinct_from_map f [] d = tt
distinct_from_map f (x ∷ xs) d = (λ c. d.0 (contains_map f xs x c), distinct_from_map f xs d.1)

below_symbols : (m : SymbolId × List Item) (moves : List (SymbolId × List Item)) → AllByRecursion (λ n. move_cmp m n ≡ Less) moves
    → AllByRecursion (λ x. symbol_cmp m.0 x ≡ Less) (map (λ (n : SymbolId × List Item). n.0) moves)
below_symbols m [] all = tt
below_symbols m (n ∷ moves) all = (all.0, below_symbols m moves all.1)

-- the symbols of moves ascend as the moves do
pub symbols_ascend : (moves : List (SymbolId × List Item)) → IsStrictlySortedBy move_cmp moves
    → IsStrictlySortedBy symbol_cmp (map (λ (m : SymbolId × List Item). m.0) moves)
unfolding IsStrictlySortedBy
symbols_ascend [] sorted = tt
symbols_ascend (m ∷ moves) sorted = (below_symbols m moves sorted.0, symbols_ascend moves sorted.1)
