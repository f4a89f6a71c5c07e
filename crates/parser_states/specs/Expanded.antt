-- States that are expanded by rules.
use Rattle.std.specs.Prelude.{◌≡◌, ℕ, List, Some, slice_get}
use Rattle.forest.specs.declared.rules.Rule.{Rule}
use Rattle.item_sets.specs.declared.item.Item.{Item}
use Rattle.item_sets.specs.Prefixes.{start_kernel}
use Rattle.parser_states.specs.Known.{Known}
use Rattle.parser_states.specs.Rows.{KeepsExpansions}

-- The first state is the one that a parse begins in. No two states have the same kernel, the kernels have items of the rules, and what is
-- kept of each state is the expansion of its kernel by the rules.
pub record AreExpandedIn (rules : List Rule) (states : Known) : Type 0 where
  pub start : slice_get states.kernels 0 ≡ Some start_kernel
  pub told : KeepsExpansions rules states

-- it holds of the rules by which the states are expanded and the kernel of the state with this number
abbrev pub OfState : Known → (state : ℕ) → (List Rule → List Item → Type 0) → Type 0
OfState states state Holds = (rules : List Rule) (kernel : List Item) → AreExpandedIn rules states → slice_get states.kernels state ≡ Some kernel
    → Holds rules kernel
