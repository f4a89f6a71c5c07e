use Rattle.std.proofs.Common.{◌≡◌, ℕ, ◌<◌, ◌≤◌, inl, inr, List, length, slice_get, Some, refl, sym, subst, arith}
use Rattle.std.proofs.lemmas.Bool.{cases_lt}
use Rattle.gss.specs.declared.stack_graph.Place.{Place}
use Rattle.gss.specs.PlaceGraphs.{place_with, HasNode, IsOfState}
use Rattle.rekers.proofs.NewNodes.{at_end}
use Rattle.rekers.proofs.nodes.node_of.Goals as goal
use Rattle.rekers.proofs.nodes.node_of.Goals.{in-Some+else-node-level, in_default}

-- no node is of the state and at the place where none of the state is among those of the place
none_there : (nodes : List Place) (state at first : ℕ)
    → ((node : ℕ) (place : Place) → slice_get nodes node ≡ Some place → node < first → place.at < at)
    → ((node : ℕ) → first ≤ node → IsOfState nodes state node → ⊥) → HasNode nodes state at → ⊥
none_there nodes state at first before none (node, there) = elim (cases_lt node first) [
  | inl below ↦ absurd (omega (arith, before node (place_with state at) there below))
  | inr above ↦ none node above (place_with state at, there, refl)
]

pub add_node-requires-clause-new : goal.add_node-requires-clause-new
add_node-requires-clause-new c = none_there c.args.stacks.now.nodes c.args.state c.args.level.at c.args.level.first_node c.requires.before
    (λ node above is. elim c.match-newest_node.branch [
      | in-Some+else-node-level w ↦ w.in-Some.ensures.newest.greatest node (omega (arith, above, w.if-node-level.false)) is
      | in_default w ↦ w.in_default.ensures.none node is
    ])

pub returns-clause-node : goal.returns-clause-node
returns-clause-node c =
    let place = place_with c.args.state c.args.level.at in
    let in_new : slice_get c.add_node.new.self.nodes (length c.args.stacks.now.nodes) ≡ Some place =
    subst (λ ns. slice_get ns (length c.args.stacks.now.nodes) ≡ Some place) (sym c.in_ok-node.ensures.nodes) (at_end c.args.stacks.now.nodes place) in
    subst (λ n. slice_get c.add_node.new.self.nodes n ≡ Some place) (sym c.in_ok-node.ensures.number) in_new

pub returns-clause-nodes : goal.returns-clause-nodes
returns-clause-nodes c = inr (
  none_there c.args.stacks.now.nodes c.args.state c.args.level.at c.args.level.first_node c.requires.before
      (λ node above is. elim c.match-newest_node.branch [
        | in-Some+else-node-level w ↦ w.in-Some.ensures.newest.greatest node (omega (arith, above, w.if-node-level.false)) is
        | in_default w ↦ w.in_default.ensures.none node is
      ]),
  c.in_ok-node.ensures.nodes,
)
