-- Where moves lead, by the numbers of states.
use Rattle.std.specs.Prelude.{◌≡◌, ℕ, List, Option, Some, MatchOption, slice_get, Contains}
use Rattle.forest.specs.declared.symbols.SymbolId.{SymbolId}
use Rattle.forest.specs.declared.rules.Rule.{Rule}
use Rattle.item_sets.specs.declared.item.Item.{Item}
use Rattle.item_sets.specs.Expansions.{HasMove, IsMoveOf}
use Rattle.live_graph.specs.Asking.{Joins}

-- the number is that of the kernel's state, which was among the old ones, which then are all, or is the one that is new
pub record IsNumbered (kernel : List Item) (old new : List (List Item)) (number : ℕ) : Type 0 where
  pub named : slice_get new number ≡ Some kernel
  pub joins : Joins old kernel new

-- the kernel has no move on the symbol, and no state is new
abbrev pub LeadsNowhere : List Rule → (old new : List (List Item)) → List Item → SymbolId → Type 0
LeadsNowhere rules old new kernel x = (HasMove rules (Contains kernel) x → ⊥) × (new ≡ old)

-- the number is that of the state behind the kernel's move on the symbol
pub record LeadsToKernel (rules : List Rule) (old new : List (List Item)) (kernel : List Item) (x : SymbolId) (number : ℕ) : Type 0 where
  pub upper : List Item
  pub behind : IsMoveOf rules kernel x upper
  pub numbered : IsNumbered upper old new number

-- where the state leads by the symbol: nowhere, or to the state with the number
abbrev pub LeadsFrom : List Rule → (old new : List (List Item)) → (state : ℕ) → SymbolId → Option ℕ → Type 0
LeadsFrom rules old new state x target = (kernel : List Item) → slice_get old state ≡ Some kernel
    → MatchOption target (LeadsNowhere rules old new kernel x) (LeadsToKernel rules old new kernel x)
