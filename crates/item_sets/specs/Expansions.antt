-- What a kernel expands to, and what that costs.
use Rattle.std.specs.Prelude.{◌≡◌, ℕ, suc, ◌↔◌, List, length, Contains}
use Rattle.std.specs.List.Sorted.{IsStrictlySortedBy}
use Rattle.forest.specs.declared.symbols.SymbolId.{SymbolId}
use Rattle.forest.specs.declared.rules.RuleId.{RuleId}
use Rattle.forest.specs.declared.rules.Rule.{Rule}
use Rattle.forest.specs.Distinct.{IsDistinct}
use Rattle.item_sets.specs.declared.item.Item.{Item}
use Rattle.item_sets.specs.declared.expansion.Expansion.{Expansion}
use Rattle.item_sets.specs.Orders.{move_cmp, reduction_cmp}
use Rattle.item_sets.specs.Prefixes.{item_at, HasRight, IsNext, IsListOf}

-- the closure of a set of items: the set's own, and each live rule with the dot at 0 whose left side stands after the dot of
-- an item of the closure
pub data InClosure (rules : List Rule) (Set : Item → Type 0) : Item → Type 0 where
  own : {item : Item} → Set item → InClosure rules Set item
  added : {before : Item} {r : Rule} → InClosure rules Set before → IsNext rules before r.left → Contains rules r
      → InClosure rules Set (item_at r.number 0)

-- the items of the move on x: those of the closure that have x after their dot, with the dot moved past it
pub data InMove (rules : List Rule) (Set : Item → Type 0) (x : SymbolId) : Item → Type 0 where
  past : {k : RuleId} {d : ℕ} → InClosure rules Set (item_at k d) → IsNext rules (item_at k d) x → InMove rules Set x (item_at k (suc d))

-- the set has a move on x
abbrev pub HasMove : List Rule → (Item → Type 0) → SymbolId → Type 0
HasMove rules Set x = (item : Item) × InMove rules Set x item

-- the rule of a finished item of the closure
abbrev pub IsReduction : List Rule → (Item → Type 0) → RuleId → Type 0
IsReduction rules Set k = (right : List SymbolId) × HasRight rules k right × InClosure rules Set (item_at k (length right))

-- upper is what the move on x makes of the kernel
pub record IsMoveOf (rules : List Rule) (kernel : List Item) (x : SymbolId) (upper : List Item) : Type 0 where
  pub some : HasMove rules (Contains kernel) x
  pub list : IsListOf upper (InMove rules (Contains kernel) x)

-- exactly the moves of the kernel, by their symbols, and exactly its reductions, by their numbers
pub record IsExpansionOf (rules : List Rule) (kernel : List Item) (expansion : Expansion) : Type 0 where
  pub move_order : IsStrictlySortedBy move_cmp expansion.moves
  pub moves : (x : SymbolId) (upper : List Item) → Contains expansion.moves (x, upper) ↔ IsMoveOf rules kernel x upper
  pub reduction_order : IsStrictlySortedBy reduction_cmp expansion.reductions
  pub reductions : (k : RuleId) → Contains expansion.reductions k ↔ IsReduction rules (Contains kernel) k

-- so many items are in the closure of the kernel
pub record IsCost (rules : List Rule) (kernel : List Item) (cost : ℕ) : Type 0 where
  pub items : List Item
  pub distinct : IsDistinct items
  pub members : (item : Item) → Contains items item ↔ InClosure rules (Contains kernel) item
  pub count : length items ≡ cost
