-- The size of a parse: how many links and visited splits the rules and the text have.
use Rattle.std.specs.Prelude.{◌≡◌, ℕ, ◌+◌, ◌<◌, List, ◌∷◌, length, Contains}
use Rattle.forest.specs.declared.symbols.SymbolId.{SymbolId}
use Rattle.forest.specs.declared.rules.Rule.{Rule}
use Rattle.forest.specs.declared.nodes.Split.{Split}
use Rattle.forest.specs.Derivation.{Derives, DerivesAlong}
use Rattle.forest.specs.Distinct.{IsDistinct, AreAll}
use Rattle.item_sets.specs.declared.item.Item.{Item}
use Rattle.item_sets.specs.Prefixes.{item_at}
use Rattle.item_sets.specs.Expansions.{InClosure, IsMoveOf}
use Rattle.rekers.specs.States.{IsStateAt}

-- two states at their places, and a symbol between them
pub record StateLink : Type 0 where
  pub lower : List Item
  pub from : ℕ
  pub symbol : SymbolId
  pub upper : List Item
  pub to : ℕ

-- the lower state is reached at from, the symbol derives the tokens from there to to, and the upper state is behind the move on it
pub record IsLink (rules : List Rule) (tokens : List SymbolId) (link : StateLink) : Type 0 where
  pub reached : IsStateAt rules tokens link.lower link.from
  pub derives : Derives rules tokens link.symbol link.from link.to
  pub move : IsMoveOf rules link.lower link.symbol link.upper

-- the split's parts are all derived, and a state that is reached at its first cut has its rule with the dot at 0 in its closure
pub record IsVisited (rules : List Rule) (tokens : List SymbolId) (split : Split) : Type 0 where
  pub rule : Rule
  pub live : Contains rules rule
  pub number : rule.number ≡ split.rule
  pub from : ℕ
  pub ends : List ℕ
  pub cuts : split.cuts ≡ from ∷ ends
  pub to : ℕ
  pub along : DerivesAlong rules tokens rule.right from ends to
  pub state : List Item
  pub reached : IsStateAt rules tokens state from
  pub begun : InClosure rules (Contains state) (item_at rule.number 0)

-- the list has some members of the set, each once
pub record AreSome {X : Type 0} (xs : List X) (Set : X → Type 0) : Type 0 where
  pub distinct : IsDistinct xs
  pub within : (x : X) → Contains xs x → Set x

-- there are so many links and visited splits
pub record IsSize (rules : List Rule) (tokens : List SymbolId) (size : ℕ) : Type 0 where
  pub links : List StateLink
  pub splits : List Split
  pub all_links : AreAll (IsLink rules tokens) links
  pub all_splits : AreAll (IsVisited rules tokens) splits
  pub sum : length links + length splits ≡ size

-- there are more links and visited splits than that
pub record IsAbove (rules : List Rule) (tokens : List SymbolId) (limit : ℕ) : Type 0 where
  pub links : List StateLink
  pub splits : List Split
  pub some_links : AreSome links (IsLink rules tokens)
  pub some_splits : AreSome splits (IsVisited rules tokens)
  pub more : limit < length links + length splits
