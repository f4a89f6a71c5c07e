-- What a text asks a graph for: what the parts of the work on a text say to each other.
use Rattle.std.specs.Prelude.{◌⊎◌, ◌↔◌, ℕ, List, Contains}
use Rattle.forest.specs.declared.symbols.SymbolId.{SymbolId}
use Rattle.edit_log.specs.History.{Grammar}
use Rattle.row_coding.specs.Rows.{Key, kernel, scan}
use Rattle.live_graph.specs.Meaning.{GraphMeaning}
use Rattle.rekers.specs.Asked.{AsksStates, AsksSomeStates}
use Rattle.replies.specs.declared.reply.Outcome.{Outcome}
use Rattle.replies.specs.declared.reply.Outcome.TheVariants.{Parsed, Scan, TooLarge}
use Rattle.sections.specs.Held.{ReachesKey, ScansKey}

-- the graph was asked for the key
abbrev pub HasAsked : {Base : Type 0} → GraphMeaning Base → Key → Type 0
HasAsked graph (kernel items) = Contains graph.kernels.keys items
HasAsked graph (scan key) = Contains graph.scans.keys key

-- the graph was asked for exactly these keys
abbrev pub AsksAll : {Base : Type 0} → (Key → Type 0) → (old new : GraphMeaning Base) → Type 0
AsksAll Wanted old new = (key : Key) → HasAsked new key ↔ (HasAsked old key ⊎ Wanted key)

-- the graph was asked for the keys that the text reaches, but maybe not for all kernels
pub record AsksMost {Base : Type 0} (grammar : Grammar) (text : List ℕ) (old new : GraphMeaning Base) : Type 0 where
  pub within : (key : Key) → HasAsked new key → HasAsked old key ⊎ ReachesKey grammar text key
  pub scanned : (key : Key) → ScansKey grammar text key → HasAsked new key

-- what the graph was asked for where a text is parsed so
abbrev pub AsksText : {Base : Type 0} → Grammar → List ℕ → Outcome → (old new : GraphMeaning Base) → Type 0
AsksText grammar text (Parsed parsed) old new = AsksAll (ReachesKey grammar text) old new
AsksText grammar text (Scan error) old new = AsksAll (ReachesKey grammar text) old new
AsksText grammar text TooLarge old new = AsksMost grammar text old new

-- what it was asked for where tokens are parsed so
abbrev pub AsksTokens : {Base : Type 0} → List SymbolId → Outcome → (old new : GraphMeaning Base) → Type 0
AsksTokens kinds (Parsed parsed) old new = AsksStates kinds old new
AsksTokens kinds (Scan error) old new = ⊥
AsksTokens kinds TooLarge old new = AsksSomeStates kinds old new
