-- The states that a text reaches, and the last place where it can still be the beginning of a sentence.
use Rattle.std.specs.Prelude.{ℕ, ◌≤◌, List}
use Rattle.forest.specs.declared.symbols.SymbolId.{SymbolId}
use Rattle.forest.specs.declared.rules.Rule.{Rule}
use Rattle.forest.specs.Derivation.{DerivesAlong}
use Rattle.item_sets.specs.declared.item.Item.{Item}
use Rattle.item_sets.specs.Prefixes.{IsViable, IsKernelOf}

-- the state is reached at i: it is the kernel of a viable prefix whose symbols, one after the other, derive the first i tokens
pub record IsStateAt (rules : List Rule) (tokens : List SymbolId) (kernel : List Item) (i : ℕ) : Type 0 where
  pub prefix : List SymbolId
  pub cuts : List ℕ
  pub derives : DerivesAlong rules tokens prefix 0 cuts i
  pub viable : IsViable rules prefix
  pub is_kernel : IsKernelOf rules prefix kernel

-- the state is reached somewhere in the text
abbrev pub IsStateReached : List Rule → List SymbolId → List Item → Type 0
IsStateReached rules tokens kernel = (i : ℕ) × IsStateAt rules tokens kernel i

-- a state is reached here, and none behind
pub record IsLastViable (rules : List Rule) (tokens : List SymbolId) (at : ℕ) : Type 0 where
  pub kernel : List Item
  pub reached : IsStateAt rules tokens kernel at
  pub none_behind : (other : List Item) (i : ℕ) → IsStateAt rules tokens other i → i ≤ at
