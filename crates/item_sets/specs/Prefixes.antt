-- Chains of items, viable prefixes and their kernels. No automaton is named here.
use Rattle.std.specs.Prelude.{◌≡◌, ℕ, ◌<◌, ◌≤◌, ◌⊎◌, List, [], ◌∷◌, ◌++◌, take, length, Contains, slice_get, Some}
use Rattle.std.specs.List.Sorted.{IsStrictlySortedBy}
use Rattle.forest.specs.declared.symbols.SymbolId.{SymbolId}
use Rattle.forest.specs.declared.symbols.TheConstants.{START}
use Rattle.forest.specs.declared.rules.RuleId.{RuleId}
use Rattle.forest.specs.declared.rules.Rule.{Rule}
use Rattle.item_sets.specs.declared.item.Item.{Item}
use Rattle.item_sets.specs.Orders.{item_cmp}

-- the number of the rule that derives START alone. No live rule has it.
abbrev pub rule_zero : RuleId
rule_zero = record { 0 = 0 }

abbrev pub item_at : RuleId → ℕ → Item
item_at rule dot = record { rule = rule; dot = dot }

-- rule 0 with the dot at 0
abbrev pub start_item : Item
start_item = item_at rule_zero 0

-- the rule of this number has this right side: rule 0 has START alone
pub data HasRight (rules : List Rule) : RuleId → List SymbolId → Type 0 where
  whole : HasRight rules rule_zero (START ∷ [])
  live : {r : Rule} → Contains rules r → HasRight rules r.number r.right

-- the item names rule 0 or a live rule, and its dot is within the right side
pub record IsItem (rules : List Rule) (item : Item) : Type 0 where
  pub right : List SymbolId
  pub has : HasRight rules item.rule right
  pub within : item.dot ≤ length right

-- each of them is an item of the rules
abbrev pub AreItems : List Rule → List Item → Type 0
AreItems rules items = (item : Item) → Contains items item → IsItem rules item

-- x stands after the item's dot
pub record IsNext (rules : List Rule) (item : Item) (x : SymbolId) : Type 0 where
  pub right : List SymbolId
  pub has : HasRight rules item.rule right
  pub at_dot : slice_get right item.dot ≡ Some x

-- The item is the last of a chain whose string is g. A chain begins with an item of rule 0, and each later item is of a
-- rule whose left side stands after the dot of the item before it. Its string is what stands before the dots, joined.
pub data EndsChain (rules : List Rule) : List SymbolId → Item → Type 0 where
  first : {d : ℕ} → d ≤ 1 → EndsChain rules (take d (START ∷ [])) (item_at rule_zero d)
  later : {g : List SymbolId} {before : Item} {r : Rule} {d : ℕ} → EndsChain rules g before → IsNext rules before r.left → Contains rules r
      → d ≤ length r.right → EndsChain rules (g ++ take d r.right) (item_at r.number d)

-- the item is valid for g
abbrev pub IsValid : List Rule → List SymbolId → Item → Type 0
IsValid rules g item = EndsChain rules g item

-- g is a viable prefix: some item is valid for it
abbrev pub IsViable : List Rule → List SymbolId → Type 0
IsViable rules g = (item : Item) × IsValid rules g item

-- the items of the kernel of g: those that are valid for it with the dot not at 0, and rule 0 with the dot at 0 where g is empty
abbrev pub InKernel : List Rule → List SymbolId → Item → Type 0
InKernel rules g item = IsValid rules g item × ((0 < item.dot) ⊎ ((g ≡ []) × (item ≡ start_item)))

-- the list has exactly the items of the set, each once and in order
pub record IsListOf (items : List Item) (Set : Item → Type 0) : Type 0 where
  pub ascends : IsStrictlySortedBy item_cmp items
  pub within : (item : Item) → Contains items item → Set item
  pub whole : (item : Item) → Set item → Contains items item

-- the kernel of g
abbrev pub IsKernelOf : List Rule → List SymbolId → List Item → Type 0
IsKernelOf rules g kernel = IsListOf kernel (InKernel rules g)

-- the kernel of the empty prefix
abbrev pub start_kernel : List Item
start_kernel = start_item ∷ []
