-- What is found is there by the rules and the text.
use Rattle.std.specs.Prelude.{◌≡◌, ℕ, ◌+◌, ◌<◌, ◌≤◌, List, length, Some, slice_get, Contains, IsTrue}
use Rattle.forest.specs.declared.symbols.SymbolId.{SymbolId}
use Rattle.forest.specs.declared.rules.Rule.{Rule}
use Rattle.forest.specs.Derivation.{IsNonterminal, AreTerminals}
use Rattle.forest.specs.Distinct.{IsDistinct}
use Rattle.item_sets.specs.declared.item.Item.{Item}
use Rattle.item_sets.specs.Prefixes.{start_kernel}
use Rattle.item_sets.specs.Expansions.{HasMove}
use Rattle.item_sets.proofs.Numbering.{IsNumbered}
use Rattle.gss.specs.declared.stack_graph.Place.{Place}
use Rattle.gss.specs.declared.stack_graph.Edge.{Edge}
use Rattle.packed_spans.specs.declared.span.TheConstants.{TOKEN_PART}
use Rattle.packed_spans.specs.Packed.{PackedSplit}
use Rattle.packed_spans.specs.Complete.{IsPartAt}
use Rattle.parser_states.specs.Reductions.{Opens}
use Rattle.parser_states.specs.Expanded.{AreExpandedIn}
use Rattle.rekers.specs.declared.parser.Parser.{Parser}
use Rattle.rekers.specs.States.{IsStateAt}
use Rattle.rekers.specs.Size.{StateLink, IsLink}
use Rattle.rekers.specs.Found.{Findings, found, IsNode}
use Rattle.rekers.specs.Reductions.{IsFoundAlong}

-- two states at places, and a symbol between them
abbrev pub state_link_of : List Item → ℕ → SymbolId → List Item → ℕ → StateLink
state_link_of s i x v j = record { lower = s; from = i; symbol = x; upper = v; to = j }

-- the state of the node has this kernel, and the node is at place i: that of the lower and of the upper end of a link
pub record HasEnds (f : Findings) (edge : Edge) : Type 0 where
  pub lower : List Item
  pub from : ℕ
  pub lower_is : IsNode f edge.lower lower from
  pub upper : List Item
  pub to : ℕ
  pub upper_is : IsNode f edge.upper upper to

-- the link is one between states that are reached, and its label tells the token or the span that its symbol is
pub record IsSoundLink (rules : List Rule) (tokens : List SymbolId) (f : Findings) (edge : Edge) : Type 0 where
  pub ends : HasEnds f edge
  pub link : IsLink rules tokens (state_link_of ends.lower ends.from edge.symbol ends.upper ends.to)
  pub label : IsPartAt rules tokens f.spans edge.symbol ends.from edge.label ends.to

-- no node before this one at its place moves on the symbol
abbrev pub IsFirstMover : List Rule → Findings → ℕ → SymbolId → Type 0
IsFirstMover rules f node x = (other i : ℕ) (kernel own : List Item) → IsNode f other kernel i → IsNode f node own i → other < node
    → HasMove rules (Contains kernel) x → ⊥

-- the link made the span: it leads up from the first node there that moves on the symbol of the span, and has the span as its label
pub record IsOwner (rules : List Rule) (f : Findings) (span owner : ℕ) : Type 0 where
  pub edge : Edge
  pub there : slice_get f.links owner ≡ Some edge
  pub label : edge.label ≡ span
  pub nonterminal : IsNonterminal rules edge.symbol
  pub first : IsFirstMover rules f edge.lower edge.symbol

pub record IsSoundGraph (rules : List Rule) (tokens : List SymbolId) (f : Findings) : Type 0 where
  -- states and nodes
  pub one_state : (a b : ℕ) (kernel : List Item) → slice_get f.kernels a ≡ Some kernel → slice_get f.kernels b ≡ Some kernel → a ≡ b
  pub one_node : (a b : ℕ) (place : Place) → slice_get f.nodes a ≡ Some place → slice_get f.nodes b ≡ Some place → a ≡ b
  pub begun : IsNode f 0 start_kernel 0
  pub nodes : (node : ℕ) (place : Place) → slice_get f.nodes node ≡ Some place
      → (kernel : List Item) × (slice_get f.kernels place.state ≡ Some kernel) × IsStateAt rules tokens kernel place.at
  pub rising : (a b : ℕ) (low high : Place) → slice_get f.nodes a ≡ Some low → slice_get f.nodes b ≡ Some high → a ≤ b → low.at ≤ high.at
  -- links
  pub links : (link : ℕ) (edge : Edge) → slice_get f.links link ≡ Some edge → IsSoundLink rules tokens f edge
  pub one_link : (a b : ℕ) (edge other : Edge) (upper above : Place) → slice_get f.links a ≡ Some edge → slice_get f.links b ≡ Some other
      → edge.lower ≡ other.lower → edge.symbol ≡ other.symbol → slice_get f.nodes edge.upper ≡ Some upper → slice_get f.nodes other.upper ≡ Some above
      → upper.at ≡ above.at → a ≡ b
  -- spans
  pub owned : length f.owners ≡ length f.spans
  pub owners : (span owner : ℕ) → slice_get f.owners span ≡ Some owner → IsOwner rules f span owner
  pub told : (split : PackedSplit) → Contains f.splits split → (trail : List ℕ) × (top : ℕ) × IsFoundAlong rules f split trail top
  pub distinct : IsDistinct f.splits

-- each state has a node
abbrev pub ArePlaced : Findings → Type 0
ArePlaced f = (state : ℕ) (kernel : List Item) → slice_get f.kernels state ≡ Some kernel → (node : ℕ) × (i : ℕ) × IsNode f node kernel i

-- from these numbers on nodes and links are at the place, and before them at earlier ones
pub record IsLevel (f : Findings) (at first_node first_link : ℕ) : Type 0 where
  pub nodes_within : first_node ≤ length f.nodes
  pub links_within : first_link ≤ length f.links
  pub nodes_before : (node : ℕ) (place : Place) → slice_get f.nodes node ≡ Some place → node < first_node → place.at < at
  pub nodes_here : (node : ℕ) (place : Place) → slice_get f.nodes node ≡ Some place → first_node ≤ node → place.at ≡ at
  pub links_before : (link : ℕ) (edge : Edge) → slice_get f.links link ≡ Some edge → link < first_link → edge.upper < first_node
  pub links_here : (link : ℕ) (edge : Edge) → slice_get f.links link ≡ Some edge → first_link ≤ link → first_node ≤ edge.upper

-- from the node on all are at the place or behind it, and no node before it at the place moves on a left side
pub record IsOpener (rules : List Rule) (f : Findings) (i node : ℕ) : Type 0 where
  pub within : node ≤ length f.nodes
  pub behind : (other : ℕ) (place : Place) → slice_get f.nodes other ≡ Some place → node ≤ other → i ≤ place.at
  pub none_before : (other : ℕ) (kernel : List Item) → IsNode f other kernel i → other < node → Opens rules kernel → ⊥

pub record AreOpeners (rules : List Rule) (f : Findings) (openers : List ℕ) (at : ℕ) : Type 0 where
  pub size : length openers ≡ at + 1
  pub each : (i node : ℕ) → slice_get openers i ≡ Some node → IsOpener rules f i node

-- no link from this number on leads down to a node from that number on
abbrev pub IsFlat : Findings → (first_node first_link : ℕ) → Type 0
IsFlat f first_node first_link = (link : ℕ) (edge : Edge) → slice_get f.links link ≡ Some edge → first_link ≤ link → edge.lower < first_node

-- what the parser has found is sound, and what it notes of it is so
pub record IsSoundParser (rules : List Rule) (tokens : List SymbolId) (parser : Parser) : Type 0 where
  pub numbered : IsNumbered rules
  pub terminals : AreTerminals rules tokens
  pub expanded : AreExpandedIn rules parser.states
  pub graph : IsSoundGraph rules tokens (found parser)
  pub level : IsLevel (found parser) parser.level.at parser.level.first_node parser.level.first_link
  pub openers : AreOpeners rules (found parser) parser.openers.items parser.level.at
  pub flat : IsTrue parser.is_flat → IsFlat (found parser) parser.level.first_node parser.level.first_link
  pub spans_below : length parser.spans.spans ≤ TOKEN_PART
