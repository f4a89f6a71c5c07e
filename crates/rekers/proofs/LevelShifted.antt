-- A level is left, and its nodes are shifted to the next one.
use Rattle.std.proofs.Common.{◌≡◌, ℕ, ◌+◌, ◌<◌, ◌≤◌, List, length, sym, ◌∙◌, ap, subst, arith, slice_get, Some}
use Rattle.forest.specs.declared.symbols.SymbolId.{SymbolId}
use Rattle.forest.specs.declared.rules.Rule.{Rule}
use Rattle.item_sets.proofs.Chains.{at_below}
use Rattle.live_graph.specs.Meaning.{GraphMeaning}
use Rattle.gss.specs.PlaceGraphs.{PlaceGraph}
use Rattle.parser_states.specs.Asked.{AsksNew}
use Rattle.rekers.specs.declared.level.Level.{Level}
use Rattle.rekers.specs.declared.parser.Parser.{Parser}
use Rattle.rekers.specs.Found.{Findings, found, IsNode, Grows}
use Rattle.rekers.specs.Reductions.{IsWorked}
use Rattle.rekers.specs.Sound.{IsSoundParser, IsLevel, ArePlaced}
use Rattle.rekers.specs.Shifts.{AreBefore, AreShiftedFrom}
use Rattle.rekers.specs.Steps.{IsStep, IsWithinLimit, AreShifted, Advances}
use Rattle.rekers.proofs.Shifted.{worked_on, are_shifted}

-- the limit looks at links, nodes and splits alone
pub within_same : (p q : Parser) → q.stacks ≡ p.stacks → q.spans ≡ p.spans → IsWithinLimit p → IsWithinLimit q
within_same p q stacks spans within = record {
  few = subst (λ (g : PlaceGraph). length g.nodes ≤ length g.links + 1) (sym stacks) within.few;
  limit = rw (stacks, spans) within.limit;
}

module _ (rules : List Rule) (tokens : List SymbolId) (p q : Parser) (sound : IsSoundParser rules tokens p)
    (same : q ≡ record p { openers = q.openers; level = q.level; is_flat = q.is_flat }) (next : Advances p q) where
  found_same : found q ≡ found p
  found_same = ap found same

  pub advance_within : IsWithinLimit p → IsWithinLimit q
  advance_within within = within_same p q (ap (λ (x : Parser). x.stacks) same) (ap (λ (x : Parser). x.spans) same) within

  -- the nodes of the level that was left
  pub nodes_before : AreBefore (found q) p.level.first_node q.level.first_node q.level.at
  nodes_before node low high =
      let below : node < length p.stacks.nodes = omega (arith, high, next.first_node) in
      let (place, there) = at_below p.stacks.nodes node below in
      let (kernel, named, reached) = sound.graph.nodes node place there in
      let here : place.at ≡ p.level.at = sound.level.nodes_here node place there low in
      let is : IsNode (found p) node kernel place.at = record { state = place.state; there = there; is_kernel = named } in (
        kernel,
        place.at,
        subst (λ f. IsNode f node kernel place.at) (sym found_same) is,
        omega (arith, next.at, here),
      )

  pub no_links : q.level.first_link ≡ length q.stacks.links
  no_links = next.first_link ∙ ap (λ (f : Findings). length f.links) (sym found_same)

  module _ {Base : Type 0} (r : Parser) (graph graph' : GraphMeaning Base) (before after : ℕ) (step : IsStep tokens q r graph graph' before after) where
    pub shift_grows : Grows (found p) (found r)
    shift_grows = subst (λ f. Grows f (found r)) found_same step.grows

    pub shift_placed : ArePlaced (found p) → ArePlaced (found r)
    shift_placed = subst (λ f. ArePlaced f → ArePlaced (found r)) found_same step.placed

    pub shift_asks : AsksNew p.states.kernels r.states.kernels graph graph' before after
    shift_asks = subst (λ (f : Findings). AsksNew f.kernels r.states.kernels graph graph' before after) found_same step.asks

    pub shift_at : r.level.at ≡ p.level.at + 1
    shift_at = ap (λ (l : Level). l.at) step.level ∙ next.at

    module _ (rules_are : graph'.grammar.rules ≡ rules) (splits : r.spans.splits ≡ q.spans.splits) where
      sound_after : IsSoundParser rules tokens r
      sound_after = subst (λ rs. IsSoundParser rs tokens r) rules_are step.sound

      splits_same : r.spans.splits ≡ p.spans.splits
      splits_same = splits ∙ ap (λ (f : Findings). f.splits) found_same

      pub shift_worked : IsWorked rules (found p) (length p.stacks.links) (length p.stacks.nodes)
          → IsWorked rules (found r) r.level.first_link r.level.first_node
      shift_worked worked =
          let on = worked_on rules tokens (found p) (found r) sound.graph sound.numbered sound_after.graph shift_grows splits_same worked in
          let links = ap (λ (l : Level). l.first_link) step.level ∙ next.first_link in
          let nodes = ap (λ (l : Level). l.first_node) step.level ∙ next.first_node in
          rw (links, nodes) on

      pub shift_shifted : AreShifted rules tokens (found p) p.level.at → (kind : SymbolId) → slice_get tokens p.level.at ≡ Some kind
          → AreShiftedFrom rules (found r) p.level.first_node q.level.first_node kind q.level.at → AreShifted rules tokens (found r) r.level.at
      shift_shifted shifted kind token from =
          let links = ap (λ (l : Level). l.first_link) step.level ∙ next.first_link in
          let nodes = ap (λ (l : Level). l.first_node) step.level ∙ next.first_node in
          let level : IsLevel (found r) (p.level.at + 1) (length p.stacks.nodes) (length p.stacks.links) =
          subst (λ n. IsLevel (found r) n (length p.stacks.nodes) (length p.stacks.links)) shift_at
          (subst (λ n. IsLevel (found r) r.level.at n (length p.stacks.links)) nodes
          (subst (λ n. IsLevel (found r) r.level.at r.level.first_node n) links sound_after.level)) in
          let from' = subst (λ n. AreShiftedFrom rules (found r) p.level.first_node n kind (p.level.at + 1)) next.first_node
          (subst (λ n. AreShiftedFrom rules (found r) p.level.first_node q.level.first_node kind n) next.at from) in
          subst (λ n. AreShifted rules tokens (found r) n) (sym shift_at)
          (are_shifted rules tokens (found p) (found r) sound.graph shift_grows p.level.at p.level.first_node p.level.first_link sound.level level shifted
          kind token from')
