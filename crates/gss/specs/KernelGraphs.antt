-- Stacks by kernels: their nodes and links, by number.
use Rattle.std.specs.Prelude.{◌≡◌, ℕ, ◌<◌, Bool, true, false, List, [], ◌∷◌, ◌++◌, ◌⊎◌, length, Contains}
use Rattle.forest.specs.declared.symbols.SymbolId.{SymbolId}
use Rattle.item_sets.specs.declared.item.Item.{Item}

-- a kernel at a position
pub record KernelPlace : Type 0 where
  pub kernel : List Item
  pub at : ℕ

-- from a node down to another one, by a symbol
pub record Link : Type 0 where
  pub upper : ℕ
  pub symbol : SymbolId
  pub lower : ℕ

-- nodes and links in the order in which they were added
pub record KernelGraph : Type 0 where
  pub nodes : List KernelPlace
  pub links : List Link

abbrev pub kernel_at : List Item → ℕ → KernelPlace
kernel_at kernel at = record { kernel = kernel; at = at }

abbrev pub link_of : ℕ → SymbolId → ℕ → Link
link_of upper symbol lower = record { upper = upper; symbol = symbol; lower = lower }

-- x is there: it was there before, or has been added
abbrev pub IsAdded : {X : Type 0} → List X → List X → X → Bool → Type 0
IsAdded old new x true = (Contains old x → ⊥) × (new ≡ old ++ x ∷ [])
IsAdded old new x false = Contains old x × (new ≡ old)

-- the same, whichever it was
abbrev pub IsThere : {X : Type 0} → List X → List X → X → Type 0
IsThere old new x = IsAdded old new x true ⊎ IsAdded old new x false

-- n is the number of an element
abbrev pub IsNumberIn : {X : Type 0} → List X → ℕ → Type 0
IsNumberIn xs n = n < length xs
