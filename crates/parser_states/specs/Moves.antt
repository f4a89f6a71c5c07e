-- How moves are kept, and how more of them are.
use Rattle.std.specs.Prelude.{◌≡◌, ℕ, ◌+◌, List, ◌++◌, length, map, replicate, Some, slice_get}
use Rattle.forest.specs.declared.symbols.SymbolId.{SymbolId}
use Rattle.forest.specs.declared.rules.Rule.{Rule}
use Rattle.item_sets.specs.declared.item.Item.{Item}
use Rattle.item_sets.specs.Expansions.{IsMoveOf}
use Rattle.item_sets.specs.Walks.{Extends}
use Rattle.parser_states.specs.declared.rows.Part.{Part}
use Rattle.parser_states.specs.Parts.{part_of, IsPartWithin}
use Rattle.parser_states.specs.Known.{KnownMoves}

-- the items were appended, and the part has them
pub record AddsItems (more old new : List Item) (part : Part) : Type 0 where
  pub is : new ≡ old ++ more
  pub first : part.first ≡ length old
  pub past : part.past ≡ length old + length more

-- these items stand behind the move at this place
pub record HoldsItems (moves : KnownMoves) (place : ℕ) (upper : List Item) : Type 0 where
  pub part : Part
  pub at : slice_get moves.behind place ≡ Some part
  pub within : IsPartWithin part (length moves.items)
  pub is : part_of part moves.items ≡ upper

-- the moves were appended, and the part has them
pub record AddsMoves (more : List (SymbolId × List Item)) (old new : KnownMoves) (part : Part) : Type 0 where
  pub first : part.first ≡ length old.symbols
  pub past : part.past ≡ length old.symbols + length more
  pub symbols : new.symbols ≡ old.symbols ++ map (λ m. m.0) more
  pub behind : Extends old.behind new.behind
  pub size : length new.behind ≡ length old.behind + length more
  pub each : (place : ℕ) (m : SymbolId × List Item) → slice_get more place ≡ Some m → HoldsItems new (length old.behind + place) m.1
  pub targets : new.targets ≡ old.targets ++ replicate (length more) 0
  pub items : Extends old.items new.items

-- behind the move at this place stands what the kernel's move on the symbol makes of it
pub record HoldsMove (rules : List Rule) (moves : KnownMoves) (kernel : List Item) (x : SymbolId) (place : ℕ) : Type 0 where
  pub upper : List Item
  pub at : HoldsItems moves place upper
  pub is_move : IsMoveOf rules kernel x upper

-- at this place stands a move of some kernel
pub record IsMovePlace (rules : List Rule) (moves : KnownMoves) (place : ℕ) : Type 0 where
  pub kernel : List Item
  pub symbol : SymbolId
  pub behind : HoldsMove rules moves kernel symbol place

-- the moves of before stand where they stood, and so do the items behind them
pub record KeepsMoves (old new : KnownMoves) : Type 0 where
  pub symbols : Extends old.symbols new.symbols
  pub behind : Extends old.behind new.behind
  pub items : Extends old.items new.items
