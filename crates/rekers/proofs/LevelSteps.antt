-- From level to level what was done stays done, and the graph is asked for the states of the nodes.
use Rattle.std.proofs.Common.{◌≡◌, ℕ, ◌≤◌, inl, inr, List, [], length, sym, subst, arith}
use Rattle.std.proofs.lemmas.Bool.{cases_lt}
use Rattle.std.proofs.lemmas.Option.{slice_get_within}
use Rattle.forest.specs.declared.symbols.SymbolId.{SymbolId}
use Rattle.forest.specs.declared.rules.Rule.{Rule}
use Rattle.item_sets.specs.declared.item.Item.{Item}
use Rattle.gss.specs.PlaceGraphs.{place_with}
use Rattle.live_graph.specs.Meaning.{GraphMeaning}
use Rattle.parser_states.specs.Asked.{IsNew, AsksNew}
use Rattle.rekers.specs.States.{IsStateAt, IsStateReached}
use Rattle.rekers.specs.Asked.{AsksStates, AsksSomeStates}
use Rattle.forest.specs.Numbers.{KeepsNumbers}
use Rattle.rekers.specs.Found.{Findings, IsNode, Grows}
use Rattle.rekers.specs.Sound.{IsSoundGraph, IsLevel, ArePlaced}
use Rattle.rekers.specs.Steps.{AreShifted}
use Rattle.rekers.proofs.Growth.{link_grows}
use Rattle.rekers.proofs.NewNodes.{node_back}
use Rattle.rekers.proofs.Trails.{node_state}
use Rattle.rekers.proofs.Whole.{IsDone, all_placed}

-- ---- shifts

-- shifts that are made stay made, since later nodes are at the level
pub shifted_grows : (rules : List Rule) (tokens : List SymbolId) (f g : Findings) (at first_node first_link : ℕ) → IsSoundGraph rules tokens f → Grows f g
    → first_node ≤ length f.nodes → IsLevel g at first_node first_link → AreShifted rules tokens f at → AreShifted rules tokens g at
shifted_grows rules tokens f g at first_node first_link sound grows within level shifted node i kernel x n e below moves =
    elim (cases_lt node first_node) [
      | inl before ↦
          let old : IsNode f node kernel i = node_back rules tokens f g sound grows (omega (arith, before, within)) n in
          let (link, there) = shifted node i kernel x old e below moves in
          (link, link_grows f g grows there)
      | inr here ↦ absurd (omega (arith, level.nodes_here node (place_with n.state i) n.there (omega (arith, here)), below))
    ]

-- ---- what is asked

pub keeps_none : {X : Type 0} (xs : List X) → KeepsNumbers [] xs
keeps_none xs place x e = absurd (omega (arith, slice_get_within [] place x e))

-- a state that has a node is reached
reached : (rules : List Rule) (tokens : List SymbolId) (f : Findings) → IsSoundGraph rules tokens f → ArePlaced f → (kernel : List Item)
    → IsNew [] f.kernels kernel → IsStateReached rules tokens kernel
reached rules tokens f graph placed kernel is =
    let (number, past, there) = is in
    let (node, i, at) = placed number kernel there in
    (i, node_state rules tokens f graph at)

module _ {Base : Type 0} where
  pub asks_some : (rules : List Rule) (tokens : List SymbolId) (f : Findings) (old new : GraphMeaning Base) (before after : ℕ) → rules ≡ old.grammar.rules
      → IsSoundGraph rules tokens f → ArePlaced f → AsksNew [] f.kernels old new before after → AsksSomeStates tokens old new
  asks_some rules tokens f old new before after is graph placed asks = record {
    kept = asks.kept;
    within = λ kernel has. elim (asks.within kernel has) [
      | inl old_one ↦ inl old_one
      | inr one ↦ inr (subst (λ rs. IsStateReached rs tokens kernel) is (reached rules tokens f graph placed kernel one))
    ];
  }

  pub asks_all : (rules : List Rule) (tokens : List SymbolId) (f : Findings) (old new : GraphMeaning Base) (before after : ℕ) → rules ≡ old.grammar.rules
      → IsDone rules tokens f → ArePlaced f → AsksNew [] f.kernels old new before after → AsksStates tokens old new
  asks_all rules tokens f old new before after is end placed asks kernel = (
    (asks_some rules tokens f old new before after is end.graph placed asks).within kernel,
    λ has. elim has [
      | inl old_one ↦ asks.kept kernel old_one
      | inr somewhere ↦
          let state = subst (λ rs. IsStateAt rs tokens kernel somewhere.0) (sym is) somewhere.1 in
          let (node, n) = all_placed rules tokens f end state in
          asks.asked kernel (n.state, omega arith, n.is_kernel)
    ],
  )
