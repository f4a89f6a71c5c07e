-- A parser with more states, and with one more node, is sound.
use Rattle.std.proofs.Common.{◌≡◌, ℕ, ◌+◌, ◌≤◌, ◌⊎◌, inl, inr, List, [], ◌∷◌, ◌++◌, length, sym, ◌∙◌, ap, subst, arith, slice_get, Some, false, IsTrue}
use Rattle.std.specs.declared.alloc.Global.{Global}
use Rattle.std.specs.declared.vec.Vec.{Vec}
use Rattle.std.proofs.lemmas.Bool.{cases_lt}
use Rattle.std.proofs.lemmas.Option.{slice_get_within}
use Rattle.forest.specs.declared.symbols.SymbolId.{SymbolId}
use Rattle.forest.specs.declared.rules.Rule.{Rule}
use Rattle.item_sets.specs.declared.item.Item.{Item}
use Rattle.gss.specs.declared.stack_graph.Place.{Place}
use Rattle.gss.specs.declared.stack_graph.Edge.{Edge}
use Rattle.gss.specs.PlaceGraphs.{PlaceGraph, place_with, HasNode}
use Rattle.parser_states.specs.Known.{Known}
use Rattle.parser_states.specs.Reductions.{Opens}
use Rattle.parser_states.specs.Expanded.{AreExpandedIn}
use Rattle.rekers.specs.declared.parser.Parser.{Parser}
use Rattle.rekers.specs.States.{IsStateAt}
use Rattle.forest.specs.Numbers.{KeepsNumbers}
use Rattle.rekers.specs.Found.{Findings, found}
use Rattle.rekers.specs.Sound.{IsSoundParser, IsLevel}
use Rattle.rekers.specs.Steps.{AddsNode}
use Rattle.rekers.proofs.NewNodes.{old_or_last, states_join, node_joins, level_joins, openers_join, opener_stays}

pub never_true : IsTrue false → ⊥
never_true e = cc

-- a graph is told by its nodes and links
pub graph_is : (graph : PlaceGraph) (nodes : List Place) (links : List Edge) → graph.nodes ≡ nodes → graph.links ≡ links
    → record { nodes = nodes; links = links } ≡ graph
graph_is graph nodes links e g =
    sym (ap (λ ns. let it : PlaceGraph = record { nodes = ns; links = graph.links } in it) e
    ∙ ap (λ ls. let it : PlaceGraph = record { nodes = nodes; links = ls } in it) g)

-- all nodes are at the level's place or before it
pub highest : (f : Findings) (at first_node first_link : ℕ) → IsLevel f at first_node first_link → (node : ℕ) (place : Place)
    → slice_get f.nodes node ≡ Some place
    → place.at ≤ at
highest f at first_node first_link level node place e = elim (cases_lt node first_node) [
  | inl below ↦ omega (arith, level.nodes_before node place e below)
  | inr above ↦ omega (arith, level.nodes_here node place e above)
]

module _ (rules : List Rule) (tokens : List SymbolId) (p : Parser) (sound : IsSoundParser rules tokens p) where
  -- with more states
  pub states_sound : (states : Known) → AreExpandedIn rules states → KeepsNumbers p.states.kernels states.kernels
      → IsSoundParser rules tokens (record p { states = states })
  states_sound states expanded keeps = record {
    numbered = sound.numbered;
    terminals = sound.terminals;
    expanded = expanded;
    graph = states_join rules tokens (found p) sound.graph states.kernels keeps expanded.told.one_number;
    level = record {
      nodes_within = sound.level.nodes_within;
      links_within = sound.level.links_within;
      nodes_before = sound.level.nodes_before;
      nodes_here = sound.level.nodes_here;
      links_before = sound.level.links_before;
      links_here = sound.level.links_here;
    };
    openers = record {
      size = sound.openers.size;
      each = λ i node e. opener_stays rules tokens (found p) sound.graph states.kernels keeps expanded.told.one_number i node (sound.openers.each i node e);
    };
    flat = sound.flat;
    spans_below = sound.spans_below;
  }

  module _ (state : ℕ) (kernel : List Item) (named : slice_get p.states.kernels state ≡ Some kernel) (reached : IsStateAt rules tokens kernel p.level.at) where
    -- which openers may change, and how
    abbrev pub Notes : List ℕ → Type 0
    Notes openers = (i node : ℕ) → slice_get openers i ≡ Some node
        → (slice_get p.openers.items i ≡ Some node)
        ⊎ ((i ≡ p.level.at) × (node ≡ length p.stacks.nodes + 1) × (slice_get p.openers.items p.level.at ≡ Some (length p.stacks.nodes))
        × (Opens rules kernel → ⊥))

    -- with one node more
    pub node_sound : (graph : PlaceGraph) (openers : Vec ℕ Global) → (HasNode p.stacks.nodes state p.level.at → ⊥)
        → graph.nodes ≡ p.stacks.nodes ++ place_with state p.level.at ∷ [] → graph.links ≡ p.stacks.links → length openers.items ≡ length p.openers.items
        → Notes openers.items → IsSoundParser rules tokens (record p { stacks = graph; openers = openers })
    node_sound graph openers new nodes links size notes =
        let all = highest (found p) p.level.at p.level.first_node p.level.first_link sound.level in
        let joined : IsSoundParser rules tokens
        (record p { stacks = record { nodes = p.stacks.nodes ++ place_with state p.level.at ∷ []; links = p.stacks.links }; openers = openers }) =
        record {
          numbered = sound.numbered;
          terminals = sound.terminals;
          expanded = sound.expanded;
          graph = node_joins rules tokens (found p) sound.graph state p.level.at kernel named reached all new;
          level = level_joins rules tokens (found p) sound.graph state p.level.at kernel named reached all new p.level.first_node p.level.first_link
              sound.level;
          openers = openers_join rules tokens (found p) sound.graph state p.level.at kernel named reached all new p.openers.items openers.items sound.openers
              size notes;
          flat = sound.flat;
          spans_below = sound.spans_below;
        } in
        subst (λ (g : PlaceGraph). IsSoundParser rules tokens (record p { stacks = g; openers = openers }))
        (graph_is graph (p.stacks.nodes ++ place_with state p.level.at ∷ []) p.stacks.links nodes links) joined

    -- with no node more
    pub same_sound : (graph : PlaceGraph) → graph.nodes ≡ p.stacks.nodes → graph.links ≡ p.stacks.links
        → IsSoundParser rules tokens (record p { stacks = graph })
    same_sound graph nodes links =
        subst (λ (g : PlaceGraph). IsSoundParser rules tokens (record p { stacks = g })) (graph_is graph p.stacks.nodes p.stacks.links nodes links) sound

-- the node has the number behind the old ones: it was added
pub appended : (old new : List Place) (state at node : ℕ) → slice_get new node ≡ Some (place_with state at) → AddsNode old new state at → node ≡ length old
    → (HasNode old state at → ⊥) × (new ≡ old ++ place_with state at ∷ [])
appended old new state at node there (inl same) past =
    absurd (omega (arith, past, slice_get_within old node (place_with state at) (subst (λ ns. slice_get ns node ≡ Some (place_with state at)) same there)))
appended old new state at node there (inr more) past = more

-- it has another one: none was added
pub unchanged : (old new : List Place) (state at node : ℕ) → slice_get new node ≡ Some (place_with state at) → AddsNode old new state at
    → (node ≡ length old → ⊥) → new ≡ old
unchanged old new state at node there (inl same) other = same
unchanged old new state at node there (inr (none, more)) other =
    elim (old_or_last old (place_with state at) node (place_with state at) (subst (λ ns. slice_get ns node ≡ Some (place_with state at)) more there)) [
      | inl before ↦ absurd (none (node, before))
      | inr last ↦ absurd (other last.0)
    ]
