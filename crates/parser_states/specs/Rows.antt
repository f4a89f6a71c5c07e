-- What a row keeps of a state, and what the lists keep of all.
use Rattle.std.specs.Prelude.{◌≡◌, ℕ, ◌+◌, ◌≤◌, ◌<◌, ◌↔◌, true, false, List, length, Some, slice_get, Contains, IsTrue}
use Rattle.std.specs.List.Sorted.{IsStrictlySortedBy}
use Rattle.std.specs.Ordering.{nat_cmp}
use Rattle.std.specs.declared.cmp.Ordering.{Ordering}
use Rattle.forest.specs.declared.symbols.SymbolId.{SymbolId}
use Rattle.forest.specs.declared.rules.RuleId.{RuleId}
use Rattle.forest.specs.declared.rules.Rule.{Rule}
use Rattle.forest.specs.Derivation.{IsNonterminal}
use Rattle.item_sets.specs.declared.item.Item.{Item}
use Rattle.item_sets.specs.declared.expansion.Expansion.{Expansion}
use Rattle.item_sets.specs.Prefixes.{AreItems}
use Rattle.item_sets.specs.Expansions.{HasMove, IsExpansionOf}
use Rattle.item_sets.specs.Walks.{Extends}
use Rattle.parser_states.specs.declared.rows.Part.{Part}
use Rattle.parser_states.specs.declared.rows.Row.{Row}
use Rattle.parser_states.specs.declared.reduction.Reduction.{Reduction}
use Rattle.parser_states.specs.Parts.{part_of, IsPartWithin}
use Rattle.parser_states.specs.Known.{Known, KnownMoves}
use Rattle.parser_states.specs.Moves.{AddsMoves, HoldsMove}
use Rattle.parser_states.specs.Finished.{reductions_told}
use Rattle.parser_states.specs.Reductions.{ListsReductions, Opens}

-- by number
abbrev pub symbol_cmp : SymbolId → SymbolId → Ordering
symbol_cmp a b = nat_cmp a.0 b.0

-- ---- what is kept has the shape that look-ups need

-- the parts of the row lie within so many moves and so many reductions
pub record IsRowWithin (row : Row) (most_moves most_reductions : ℕ) : Type 0 where
  pub moves : IsPartWithin row.moves most_moves
  pub empties : IsPartWithin row.empties most_reductions
  pub reductions : IsPartWithin row.reductions most_reductions

-- there is a row for each state, and its parts lie within the lists
pub record IsShaped (states : Known) : Type 0 where
  pub rows : length states.kernels ≤ length states.rows
  pub within : (number : ℕ) (row : Row) → slice_get states.rows number ≡ Some row
      → IsRowWithin row (length states.moves.symbols) (length states.reductions)

-- ---- what is kept is the expansion

-- the row keeps the expansion of the kernel by the rules
pub record IsExpansionRow (rules : List Rule) (moves : KnownMoves) (all : List Reduction) (kernel : List Item) (row : Row) : Type 0 where
  pub within : IsRowWithin row (length moves.symbols) (length all)
  pub ascends : IsStrictlySortedBy symbol_cmp (part_of row.moves moves.symbols)
  pub sound : (place : ℕ) (x : SymbolId) → row.moves.first ≤ place → place < row.moves.past → slice_get moves.symbols place ≡ Some x
      → HoldsMove rules moves kernel x place
  pub whole : (x : SymbolId) → HasMove rules (Contains kernel) x → Contains (part_of row.moves moves.symbols) x
  pub opens : IsTrue row.opens ↔ Opens rules kernel
  pub empties : ListsReductions rules kernel (λ size. size ≡ 0) (part_of row.empties all)
  pub reductions : ListsReductions rules kernel (λ size. 0 < size) (part_of row.reductions all)

-- the lists of moves are of one length, the items behind each move are there, and a target that is known is the state of these items
pub record AreMoves (kernels : List (List Item)) (moves : KnownMoves) : Type 0 where
  pub behind : length moves.behind ≡ length moves.symbols
  pub targets : length moves.targets ≡ length moves.symbols
  pub within : (place : ℕ) (part : Part) → slice_get moves.behind place ≡ Some part → IsPartWithin part (length moves.items)
  pub tells : (place entry number : ℕ) (part : Part) → slice_get moves.targets place ≡ Some entry → entry ≡ number + 1
      → slice_get moves.behind place ≡ Some part → slice_get kernels number ≡ Some (part_of part moves.items)

-- the rows keep the expansions of the states by the rules
pub record KeepsExpansions (rules : List Rule) (states : Known) : Type 0 where
  pub one_number : (one other : ℕ) (kernel : List Item) → slice_get states.kernels one ≡ Some kernel → slice_get states.kernels other ≡ Some kernel
      → one ≡ other
  pub items : (number : ℕ) (kernel : List Item) → slice_get states.kernels number ≡ Some kernel → AreItems rules kernel
  pub size : length states.rows ≡ length states.kernels
  pub rows : (number : ℕ) (kernel : List Item) (row : Row) → slice_get states.kernels number ≡ Some kernel → slice_get states.rows number ≡ Some row
      → IsExpansionRow rules states.moves states.reductions kernel row
  pub moves : AreMoves states.kernels states.moves

-- ---- one more state

-- the moves of the kernel's expansion were appended, and these are its reductions
pub record IsCopied (rules : List Rule) (kernel : List Item) (old new : KnownMoves) (finished : List RuleId) (part : Part) : Type 0 where
  pub expansion : Expansion
  pub is : IsExpansionOf rules kernel expansion
  pub moves : AddsMoves expansion.moves old new part
  pub reductions : finished ≡ expansion.reductions

-- the row of a state with these moves, on these symbols, and these finished rules, whose reductions were appended
pub record IsNewRowOf (rules : List Rule) (moves : Part) (symbols : List SymbolId) (finished : List RuleId) (old new : List Reduction) (row : Row)
    : Type 0 where
  pub moves_are : row.moves ≡ moves
  pub opens : IsTrue row.opens ↔ ((x : SymbolId) × Contains symbols x × IsNonterminal rules x)
  pub empties_within : IsPartWithin row.empties (length new)
  pub empties : part_of row.empties new ≡ reductions_told rules true finished
  pub reductions_within : IsPartWithin row.reductions (length new)
  pub reductions : part_of row.reductions new ≡ reductions_told rules false finished
  pub extends : Extends old new

-- ---- looking for a move

-- at this place stands the state's move on the symbol
pub record IsPlaceOf (states : Known) (state : ℕ) (x : SymbolId) (place : ℕ) : Type 0 where
  pub row : Row
  pub at : slice_get states.rows state ≡ Some row
  pub since : row.moves.first ≤ place
  pub before : place < row.moves.past
  pub symbol : slice_get states.moves.symbols place ≡ Some x

-- no move of the state is on the symbol, if its symbols ascend
abbrev pub IsNoneOf : Known → (state : ℕ) → SymbolId → Type 0
IsNoneOf states state x = (row : Row) → slice_get states.rows state ≡ Some row
    → IsStrictlySortedBy symbol_cmp (part_of row.moves states.moves.symbols) → Contains (part_of row.moves states.moves.symbols) x → ⊥
