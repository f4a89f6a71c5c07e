-- What a parse does to a graph.
use Rattle.std.specs.Prelude.{◌⊎◌, ◌↔◌, List, Contains}
use Rattle.forest.specs.declared.symbols.SymbolId.{SymbolId}
use Rattle.item_sets.specs.declared.item.Item.{Item}
use Rattle.live_graph.specs.Meaning.{GraphMeaning}
use Rattle.rekers.specs.States.{IsStateReached}

-- the graph was asked for exactly the states that the text reaches
abbrev pub AsksStates : {Base : Type 0} → List SymbolId → GraphMeaning Base → GraphMeaning Base → Type 0
AsksStates kinds old new = (kernel : List Item) → Contains new.kernels.keys kernel
    ↔ (Contains old.kernels.keys kernel ⊎ IsStateReached old.grammar.rules kinds kernel)

-- the graph was asked for some of the states that the text reaches
pub record AsksSomeStates {Base : Type 0} (kinds : List SymbolId) (old new : GraphMeaning Base) : Type 0 where
  pub kept : (kernel : List Item) → Contains old.kernels.keys kernel → Contains new.kernels.keys kernel
  pub within : (kernel : List Item) → Contains new.kernels.keys kernel → Contains old.kernels.keys kernel ⊎ IsStateReached old.grammar.rules kinds kernel
