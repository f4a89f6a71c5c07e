-- Which keys a text reaches, and what becomes of the graph of a page that is asked for them.
use Rattle.std.specs.Prelude.{◌≡◌, ◌⊎◌, ℕ, ◌+◌, ◌≤◌, List, Contains, length}
use Rattle.forest.specs.declared.symbols.Token.{Token}
use Rattle.forest.specs.Distinct.{IsDistinct, AreAll}
use Rattle.edit_log.specs.History.{Grammar}
use Rattle.edit_log.specs.Tokens.{tokens, Tokenizes}
use Rattle.item_sets.specs.Expansions.{IsCost}
use Rattle.isg_states.specs.Expansion.{IsScanCost}
use Rattle.isg_scan.specs.Reach.{ReachesScan}
use Rattle.pin_rule.specs.declared.sizes.Sizes.{Sizes}
use Rattle.pin_rule.specs.Lists.{In}
use Rattle.row_coding.specs.Rows.{Key, kernel, scan}
use Rattle.slot_store.specs.GraphAnswers.{HasRows}
use Rattle.graph_content.specs.Rows.{IsRowOf, Fits}
use Rattle.live_graph.specs.declared.tally.Tally.{Tally}
use Rattle.live_graph.specs.declared.tally.Tallies.{Tallies}
use Rattle.live_graph.specs.Cost.{IsSum}
use Rattle.live_graph.specs.Showing.{IsNarrow}
use Rattle.live_graph.specs.Tallying.{AddsUp}
use Rattle.live_graph.specs.Growing.{HasRowOf, IsFull}
use Rattle.rekers.specs.States.{IsStateReached}
use Rattle.rekers.specs.Answers.{kinds_of}
use Rattle.replies.specs.declared.reply.Outcome.{Outcome}
use Rattle.replies.specs.declared.reply.Outcome.TheVariants.{Parsed, Scan, TooLarge}

-- ---- which keys

-- The keys that a text reaches: the states of the scanner in which a byte of it is read, and, where it has tokens, the kernels that these reach.
abbrev pub ReachesKey : Grammar → List ℕ → Key → Type 0
ReachesKey grammar text (scan key) = ReachesScan grammar text key
ReachesKey grammar text (kernel items) = (found : List Token) × Tokenizes grammar text (tokens found) × IsStateReached grammar.rules (kinds_of found) items

-- those of them that its scan reaches
abbrev pub ScansKey : Grammar → List ℕ → Key → Type 0
ScansKey grammar text (scan key) = ReachesScan grammar text key
ScansKey grammar text (kernel items) = ⊥

-- some of the keys that the text reaches, each once, and among them all that its scan reaches
pub record AreSomeReached (grammar : Grammar) (text : List ℕ) (asked : List Key) : Type 0 where
  pub distinct : IsDistinct asked
  pub within : (key : Key) → Contains asked key → ReachesKey grammar text key
  pub scanned : (key : Key) → ScansKey grammar text key → Contains asked key

-- The keys that are asked for where the text is parsed so: all that it reaches, but only some of the kernels where the parse is too large.
abbrev pub AsksFor : Grammar → List ℕ → Outcome → List Key → Type 0
AsksFor grammar text (Parsed parsed) asked = AreAll (ReachesKey grammar text) asked
AsksFor grammar text (Scan error) asked = AreAll (ReachesKey grammar text) asked
AsksFor grammar text TooLarge asked = AreSomeReached grammar text asked

-- ---- how many

-- so many values have the property: a list with exactly these, each once, is so long
pub record IsCount {X : Type 0} (P : X → Type 0) (count : ℕ) : Type 0 where
  pub members : List X
  pub are_all : AreAll P members
  pub many : length members ≡ count

module _ (grammar : Grammar) (asked : List Key) (first last : List (List ℕ)) where
  -- The tally of the keys of one kind among those that were asked for. Found are those whose row the first graph has, and made those whose row it has not and
  -- the last has. None was raced for, and the others are kept alone.
  pub record IsTallyOf {X : Type 0} (as_key : X → Key) (t : Tally) : Type 0 where
    pub reached : IsCount (λ x. Contains asked (as_key x)) t.reached
    pub found : IsCount (λ x. Contains asked (as_key x) × HasRowOf grammar (as_key x) first) t.found
    pub made : IsCount (λ x. Contains asked (as_key x) × (¬ (HasRowOf grammar (as_key x) first)) × HasRowOf grammar (as_key x) last) t.made
    pub raced : t.raced ≡ 0
    pub sum : AddsUp t

-- so much the values with the property cost together: that is the sum over a list with exactly these, each once
pub record IsCostOfAll {X : Type 0} (Costs : X → ℕ → Type 0) (P : X → Type 0) (cost : ℕ) : Type 0 where
  pub members : List X
  pub are_all : AreAll P members
  pub is_sum : IsSum Costs members cost

-- the cost of the keys that were asked for and whose row the graph has not
pub record IsCostOfOthers (grammar : Grammar) (asked : List Key) (first : List (List ℕ)) (cost : ℕ) : Type 0 where
  pub kernels : ℕ
  pub scans : ℕ
  pub kernels_cost : IsCostOfAll (IsCost grammar.rules) (λ items. Contains asked (kernel items) × (¬ (HasRowOf grammar (kernel items) first))) kernels
  pub scans_cost : IsCostOfAll (IsScanCost grammar) (λ key. Contains asked (scan key) × (¬ (HasRowOf grammar (scan key) first))) scans
  pub sum : cost ≡ scans + kernels

-- ---- what becomes of the graph

-- a row that has room is that of one of the keys
abbrev pub IsRowAmong : Sizes → Grammar → List Key → List ℕ → Type 0
IsRowAmong z grammar asked row = (key : Key) × Contains asked key × IsRowOf grammar key row × (length row ≤ z.width)

-- No row went, only rows of keys that were asked for came, and as many as the tallies say. Each of these keys whose row is not too wide is in the last graph,
-- or that is full. The steps rise by the cost of the keys whose row the first graph has not.
pub record UsesGraph (z : Sizes) (grammar : Grammar) (asked : List Key) (first last : List (List ℕ)) (tallies : Tallies) (before after : ℕ) : Type 0 where
  pub kept : (row : List ℕ) → In row first → In row last
  pub only : (row : List ℕ) → In row last → In row first ⊎ IsRowAmong z grammar asked row
  pub stored : (key : Key) → Contains asked key → IsNarrow z grammar key → HasRowOf grammar key last ⊎ IsFull z last
  pub many : (count : ℕ) → HasRows first count → HasRows last (count + (tallies.items.made + tallies.scan.made))
  pub items_told : IsTallyOf grammar asked first last kernel tallies.items
  pub scan_told : IsTallyOf grammar asked first last scan tallies.scan
  pub cost : ℕ
  pub is_cost : IsCostOfOthers grammar asked first cost
  pub rises : after ≡ before + cost

-- such keys were asked for, with these tallies and these steps before and after
abbrev pub UsesKeys : Sizes → Grammar → (List Key → Type 0) → Tallies → (before after : ℕ) → (first last : List (List ℕ)) → Type 0
UsesKeys z grammar Asks tallies before after first last = (asked : List Key) × Asks asked × UsesGraph z grammar asked first last tallies before after

-- no row went, and only rows of keys of the grammar came
pub record AddsRowsOf (grammar : Grammar) (first last : List (List ℕ)) : Type 0 where
  pub kept : (row : List ℕ) → In row first → In row last
  pub only : (row : List ℕ) → In row last → In row first ⊎ Fits grammar row
