-- What the calls of a parser do.
use Rattle.std.specs.Prelude.{◌≡◌, ◌⊎◌, ℕ, ◌+◌, ◌<◌, ◌≤◌, List, [], ◌∷◌, ◌++◌, length, reverse, Some, slice_get, slice_index_or, map, Contains}
use Rattle.forest.specs.declared.symbols.SymbolId.{SymbolId}
use Rattle.forest.specs.declared.rules.Rule.{Rule}
use Rattle.forest.specs.Derivation.{Derives}
use Rattle.item_sets.specs.declared.item.Item.{Item}
use Rattle.item_sets.specs.Expansions.{HasMove, IsMoveOf}
use Rattle.live_graph.specs.Meaning.{GraphMeaning}
use Rattle.gss.specs.declared.stack_graph.Place.{Place}
use Rattle.gss.specs.declared.stack_graph.Edge.{Edge}
use Rattle.gss.specs.PlaceGraphs.{place_with, edge_of, HasNode, LeadsToBy}
use Rattle.packed_spans.specs.declared.span.TheConstants.{TOKEN_PART}
use Rattle.forest.specs.declared.symbols.TheConstants.{START}
use Rattle.gss.specs.Numbers.{HasNone}
use Rattle.packed_spans.specs.Packed.{PackedSplit}
use Rattle.parser_states.specs.declared.reduction.Reduction.{Reduction}
use Rattle.parser_states.specs.Asked.{AsksNew}
use Rattle.rekers.specs.declared.parser.Parser.{Parser}
use Rattle.rekers.specs.declared.walk.Walk.{Walk}
use Rattle.rekers.specs.declared.queue.Queue.{Queue}
use Rattle.rekers.specs.declared.limits.TheConstants.{SIZE_LIMIT}
use Rattle.rekers.specs.declared.parse_error.ParseError.{ParseError}
use Rattle.rekers.specs.declared.parse_error.ParseError.TheVariants.{TooLarge, NoMemory}
use Rattle.rekers.specs.Found.{Findings, found, IsNode, Grows}
use Rattle.rekers.specs.Reductions.{IsReducible, IsLinkTo, IsReduced, IsFoundAlong}
use Rattle.rekers.specs.Sound.{IsSoundParser, IsFirstMover, ArePlaced}

-- What the parser has found stays, what is new is sound, and the graph was asked for the new states.
pub record IsStep {Base : Type 0} (tokens : List SymbolId) (old new : Parser) (graph graph' : GraphMeaning Base) (before after : ℕ) : Type 0 where
  pub sound : IsSoundParser graph'.grammar.rules tokens new
  pub grows : Grows (found old) (found new)
  pub placed : ArePlaced (found old) → ArePlaced (found new)
  pub level : new.level ≡ old.level
  pub asks : AsksNew old.states.kernels new.states.kernels graph graph' before after

-- beside the first each node has a link
abbrev pub HasFewNodes : Parser → Type 0
HasFewNodes parser = length parser.stacks.nodes ≤ length parser.stacks.links + 1

-- the links and splits that were found are not more than a parse may have
pub record IsWithinLimit (parser : Parser) : Type 0 where
  pub few : HasFewNodes parser
  pub limit : length parser.stacks.links + length parser.spans.splits ≤ SIZE_LIMIT

-- they are more
abbrev pub IsAboveLimit : Parser → ParseError → Type 0
IsAboveLimit parser (TooLarge count) = (count ≡ SIZE_LIMIT + 1) × (SIZE_LIMIT < length parser.stacks.links + length parser.spans.splits)
IsAboveLimit parser NoMemory = Unit {0}

-- the node of the state at the place is among the nodes: it was there, or was added
abbrev pub AddsNode : (old new : List Place) → (state at : ℕ) → Type 0
AddsNode old new state at = (new ≡ old) ⊎ ((HasNode old state at → ⊥) × (new ≡ old ++ place_with state at ∷ []))

-- the node at the place was passed over, if all before it were
pub record IsPassed (old new : List ℕ) (at node : ℕ) : Type 0 where
  pub size : length new ≡ length old
  pub here : slice_get old at ≡ Some node → slice_get new at ≡ Some (node + 1)
  pub kept : (place other : ℕ) → slice_get new place ≡ Some other
      → (slice_get old place ≡ Some other) ⊎ ((place ≡ at) × (other ≡ node + 1) × (slice_get old at ≡ Some node))

-- the node is a state that moves on the symbol, which derives the tokens from there to the place
pub record IsLinkable (rules : List Rule) (tokens : List SymbolId) (f : Findings) (lower : ℕ) (x : SymbolId) (at : ℕ) : Type 0 where
  pub kernel : List Item
  pub from : ℕ
  pub node : IsNode f lower kernel from
  pub derives : Derives rules tokens x from at
  pub moves : HasMove rules (Contains kernel) x

-- the state with this number stands behind the node's move on the symbol
pub record IsStateBehind (rules : List Rule) (f : Findings) (lower : ℕ) (x : SymbolId) (state : ℕ) : Type 0 where
  pub kernel : List Item
  pub from : ℕ
  pub node : IsNode f lower kernel from
  pub upper : List Item
  pub is_kernel : slice_get f.kernels state ≡ Some upper
  pub move : IsMoveOf rules kernel x upper

-- the node is at the place, and of the state behind the lower node's move on the symbol
pub record IsUpper (rules : List Rule) (f : Findings) (at lower : ℕ) (x : SymbolId) (node : ℕ) : Type 0 where
  pub state : ℕ
  pub there : slice_get f.nodes node ≡ Some (place_with state at)
  pub behind : IsStateBehind rules f lower x state

-- the first node at the place of this one that moves on the symbol
pub record IsFirstOf (rules : List Rule) (f : Findings) (node : ℕ) (x : SymbolId) (first : ℕ) : Type 0 where
  pub from : ℕ
  pub own : List Item
  pub node_is : IsNode f node own from
  pub kernel : List Item
  pub first_is : IsNode f first kernel from
  pub moves : HasMove rules (Contains kernel) x
  pub none_before : IsFirstMover rules f first x

-- the link leads from the lower node by the symbol up to the place, and its label is a span that a link made
pub record IsLinkBy (f : Findings) (link lower : ℕ) (x : SymbolId) (at : ℕ) : Type 0 where
  pub label : ℕ
  pub is : IsLinkTo f link lower x at label
  pub owned : label < length f.owners

-- no link of the level leads by the symbol down to the node
abbrev pub IsUnlinked : Findings → (first_link lower : ℕ) → SymbolId → Type 0
IsUnlinked f first_link lower x = HasNone (LeadsToBy f.links lower x first_link)

-- the trail has the link, and none behind it
pub record IsThrough (through : ℕ) (trail : List ℕ) : Type 0 where
  pub has : Contains trail through
  pub none_behind : (link : ℕ) → Contains trail link → link ≤ through

-- the split was found by the reduction along a trail through the link, below the top
pub record IsFoundOn (rules : List Rule) (f : Findings) (walk : Walk) (split : PackedSplit) : Type 0 where
  pub trail : List ℕ
  pub told : IsFoundAlong rules f split trail walk.top
  pub number : split.rule ≡ walk.reduction.rule
  pub through : IsThrough walk.through trail

-- no split was found so
abbrev pub IsFresh : List Rule → Findings → Walk → Type 0
IsFresh rules f walk = (split : PackedSplit) → Contains f.splits split → IsFoundOn rules f walk split → ⊥

-- all reductions along trails through the link are made, and no other splits are new
pub record IsWalked (rules : List Rule) (old new : Findings) (walk : Walk) (at : ℕ) : Type 0 where
  pub all : (lower : ℕ) (trail labels : List ℕ) → IsReducible rules new walk.reduction lower trail labels walk.top at → IsThrough walk.through trail
      → IsReduced new walk.reduction lower labels at
  pub only : (split : PackedSplit) → Contains new.splits split → Contains old.splits split ⊎ IsFoundOn rules new walk split

-- the reduction along the trail is to be made, and no split was found by it
pub record IsToReduce (rules : List Rule) (f : Findings) (reduction : Reduction) (lower : ℕ) (trail : List ℕ) (top at : ℕ) : Type 0 where
  pub labels : List ℕ
  pub reducible : IsReducible rules f reduction lower trail labels top at
  pub untold : (split : PackedSplit) → Contains f.splits split → split.rule ≡ reduction.rule → IsFoundAlong rules f split trail top → ⊥

-- the reduction along the trail is made, and no other split is new
pub record Reduces (rules : List Rule) (old new : Findings) (reduction : Reduction) (lower : ℕ) (trail : List ℕ) (top at : ℕ) : Type 0 where
  pub made : (labels : List ℕ) → IsReducible rules old reduction lower trail labels top at → IsReduced new reduction lower labels at
  pub only : (split : PackedSplit) → Contains new.splits split → Contains old.splits split ⊎ ((split.rule ≡ reduction.rule) ×
      IsFoundAlong rules new split trail top)

-- no split was found by any reduction from the top along a trail through the link
abbrev pub IsAnyFresh : List Rule → Findings → (top through : ℕ) → Type 0
IsAnyFresh rules f top through = (split : PackedSplit) (trail : List ℕ) → Contains f.splits split → IsFoundAlong rules f split trail top
    → IsThrough through trail → ⊥

-- all reductions from the top along trails through the link are made, and no other splits are new
pub record IsNodeWalked (rules : List Rule) (old new : Findings) (top through at : ℕ) : Type 0 where
  pub all : (reduction : Reduction) (lower : ℕ) (trail labels : List ℕ) → IsReducible rules new reduction lower trail labels top at
      → IsThrough through trail → IsReduced new reduction lower labels at
  pub only : (split : PackedSplit) → Contains new.splits split
      → Contains old.splits split ⊎ ((trail : List ℕ) × IsFoundAlong rules new split trail top × IsThrough through trail)

-- the node is at the place before this one, and the token there has this kind
pub record IsShift (f : Findings) (tokens : List SymbolId) (node : ℕ) (kind : SymbolId) (at : ℕ) : Type 0 where
  pub kernel : List Item
  pub from : ℕ
  pub node_is : IsNode f node kernel from
  pub next : at ≡ from + 1
  pub token : slice_get tokens from ≡ Some kind

-- the level is the next one, and has no nodes and links yet
pub record Advances (old new : Parser) : Type 0 where
  pub at : new.level.at ≡ old.level.at + 1
  pub first_node : new.level.first_node ≡ length old.stacks.nodes
  pub first_link : new.level.first_link ≡ length old.stacks.links

-- the labels of the links
abbrev pub labels_of : List Edge → List ℕ → List ℕ
labels_of links trail = map (λ link. (slice_index_or links link (edge_of 0 START 0 0)).label) trail

-- the links of the trail that the parser's walk stands at, the lowest first
abbrev pub trail_of : Parser → List ℕ
trail_of parser = reverse parser.trails.trail

-- the link is one of the level
pub record IsOfLevel (f : Findings) (first_link link : ℕ) : Type 0 where
  pub is : link < length f.links
  pub of_level : first_link ≤ link

-- from each node before the place that moves on the token there a link leads to the next place
abbrev pub AreShifted : List Rule → List SymbolId → Findings → ℕ → Type 0
AreShifted rules tokens f upto = (node i : ℕ) (kernel : List Item) (x : SymbolId) → IsNode f node kernel i → slice_get tokens i ≡ Some x → i < upto
    → HasMove rules (Contains kernel) x → (link : ℕ) × IsLinkTo f link node x (i + 1) TOKEN_PART

-- the queue goes on by one of the nodes or links that are there
pub record GoesOn (parser : Parser) (queue next : Queue) : Type 0 where
  pub node : queue.node ≤ next.node
  pub link : queue.link ≤ next.link
  pub nodes : next.node ≤ length parser.stacks.nodes
  pub links : next.link ≤ length parser.stacks.links
  pub one_more : next.node + next.link ≡ queue.node + queue.link + 1
