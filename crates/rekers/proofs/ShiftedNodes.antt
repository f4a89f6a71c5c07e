-- The nodes of a level are shifted one after the other.
use Rattle.std.proofs.Common.{◌≡◌, ℕ, ◌+◌, ◌<◌, ◌≤◌, List, length, refl, sym, ◌∙◌, ap, subst, arith, Contains, slice_get, Some}
use Rattle.std.proofs.lemmas.Option.{slice_get_within}
use Rattle.forest.specs.declared.symbols.SymbolId.{SymbolId}
use Rattle.edit_log.specs.History.{Grammar}
use Rattle.item_sets.specs.declared.item.Item.{Item}
use Rattle.item_sets.specs.Expansions.{HasMove}
use Rattle.live_graph.specs.Meaning.{GraphMeaning}
use Rattle.packed_spans.specs.declared.span.TheConstants.{TOKEN_PART}
use Rattle.parser_states.specs.Asked.{StandsButKernels}
use Rattle.parser_states.proofs.AskedKernels.{stands_same, stands_join}
use Rattle.rekers.specs.declared.level.Level.{Level}
use Rattle.rekers.specs.declared.parser.Parser.{Parser}
use Rattle.rekers.specs.Found.{found, IsNode}
use Rattle.rekers.specs.Reductions.{IsLinkTo}
use Rattle.rekers.specs.Sound.{IsSoundParser}
use Rattle.rekers.specs.Shifts.{AreBefore, IsBefore, AreShiftedFrom}
use Rattle.rekers.specs.Steps.{IsStep, IsWithinLimit, IsUnlinked, IsShift}
use Rattle.rekers.proofs.Growth.{node_below, node_grows}
use Rattle.rekers.proofs.Shifted.{shifted_more}
use Rattle.rekers.proofs.Stepping.{step_none, step_on}

-- the nodes from the first one on and before this one are shifted
pub record HasShifted {Base : Type 0} (tokens : List SymbolId) (old new : Parser) (graph graph' : GraphMeaning Base) (before after first node : ℕ)
    (kind : SymbolId) : Type 0 where
  pub step : IsStep tokens old new graph graph' before after
  pub within : IsWithinLimit new
  pub splits : new.spans.splits ≡ old.spans.splits
  pub low : first ≤ node
  pub shifted : AreShiftedFrom graph.grammar.rules (found new) first node kind old.level.at
  pub unlinked : (other : ℕ) → node ≤ other → IsUnlinked (found new) old.level.first_link other kind
  pub stands : StandsButKernels graph graph'
  pub never_back : before ≤ after

pub none_shifted : {Base : Type 0} (tokens : List SymbolId) (p : Parser) (graph : GraphMeaning Base) (steps first : ℕ) (kind : SymbolId)
    → IsSoundParser graph.grammar.rules tokens p → IsWithinLimit p → p.level.first_link ≡ length p.stacks.links
    → HasShifted tokens p p graph graph steps steps first first kind
none_shifted tokens p graph steps first kind sound within links = record {
  step = step_none tokens p graph steps sound;
  within = within;
  splits = refl;
  low = omega arith;
  shifted = λ node low high. absurd (omega (arith, low, high));
  unlinked = λ other above link (past, edge, e, low, by). omega (arith, past, links, slice_get_within p.stacks.links link edge e);
  stands = stands_same graph;
  never_back = omega arith;
}

module _ {Base : Type 0} (tokens : List SymbolId) (p q : Parser) (graph graph' : GraphMeaning Base) (before between first node : ℕ) (kind : SymbolId)
    (so_far : HasShifted tokens p q graph graph' before between first node kind) where
  -- the next node is before the level, and the token is the one there
  pub next_shift : node < p.level.first_node → AreBefore (found p) first p.level.first_node p.level.at → IsBefore tokens kind p.level.at
      → IsShift (found q) tokens node kind q.level.at
  next_shift below before_level (from, next, token) =
      let (kernel, i, is, behind) = before_level node so_far.low below in
      let same : from ≡ i = omega (arith, next, behind) in
      let at : q.level.at ≡ p.level.at = ap (λ (l : Level). l.at) so_far.step.level in
      record {
        kernel = kernel;
        from = i;
        node_is = node_grows (found p) (found q) so_far.step.grows is;
        next = at ∙ behind;
        token = subst (λ n. slice_get tokens n ≡ Some kind) same token;
      }

  pub next_unlinked : IsUnlinked (found q) q.level.first_link node kind
  next_unlinked = subst (λ (l : Level). IsUnlinked (found q) l.first_link node kind) (sym so_far.step.level) (so_far.unlinked node (omega arith))

  -- the next node is an old one
  pub nodes_past : node < p.level.first_node → AreBefore (found p) first p.level.first_node p.level.at → node < length q.stacks.nodes
  nodes_past below before_level =
      let (kernel, i, is, behind) = before_level node so_far.low below in node_below (node_grows (found p) (found q) so_far.step.grows is)

  -- no node is left
  pub all_shifted : (past : ℕ) → past ≤ node → AreShiftedFrom graph.grammar.rules (found q) first past kind p.level.at
  all_shifted past upto = λ other low high. so_far.shifted other low (omega (arith, high, upto))

  module _ (r : Parser) (graph'' : GraphMeaning Base) (after : ℕ) where
    -- the node is shifted
    pub shifted_on : node < length q.stacks.nodes → IsStep tokens q r graph' graph'' between after → IsWithinLimit r → r.spans.splits ≡ q.spans.splits
        → ((kernel : List Item) (i : ℕ) → IsNode (found q) node kernel i → HasMove graph'.grammar.rules (Contains kernel) kind
        → (link : ℕ) × IsLinkTo (found r) link node kind q.level.at TOKEN_PART)
        → ((other : ℕ) → (other ≡ node → ⊥) → IsUnlinked (found q) q.level.first_link other kind → IsUnlinked (found r) q.level.first_link other kind)
        → StandsButKernels graph' graph'' → between ≤ after → HasShifted tokens p r graph graph'' before after first (node + 1) kind
    shifted_on below step within splits shifted others stands never_back =
        let at : q.level.at ≡ p.level.at = ap (λ (l : Level). l.at) so_far.step.level in
        let sound = subst (λ (gr : Grammar). IsSoundParser gr.rules tokens q) so_far.stands.grammar so_far.step.sound in
        record {
          step = step_on tokens p q r graph graph' graph'' before between after so_far.step step;
          within = within;
          splits = splits ∙ so_far.splits;
          low = let l = so_far.low in omega (arith, l);
          shifted = shifted_more graph.grammar.rules tokens (found q) (found r) sound.graph step.grows first node kind p.level.at below so_far.shifted
              (λ kernel i n moves.
              let (link, is) = shifted kernel i n (subst (λ (gr : Grammar). HasMove gr.rules (Contains kernel) kind) (sym so_far.stands.grammar) moves) in
              (link, subst (λ k. IsLinkTo (found r) link node kind k TOKEN_PART) at is));
          unlinked = λ other above.
              let differs : other ≡ node → ⊥ = λ e. omega (arith, above, e) in
              let first_of = so_far.step.level in
              let was = subst (λ (l : Level). IsUnlinked (found q) l.first_link other kind) (sym first_of) (so_far.unlinked other (omega (arith, above))) in
              subst (λ (l : Level). IsUnlinked (found r) l.first_link other kind) first_of (others other differs was);
          stands = stands_join graph graph' graph'' so_far.stands stands;
          never_back = let n = so_far.never_back in omega (arith, n, never_back);
        }

    -- a step from there is one from the beginning
    pub step_before : IsStep tokens q r graph' graph'' between after → IsStep tokens p r graph graph'' before after
    step_before step = step_on tokens p q r graph graph' graph'' before between after so_far.step step

    pub splits_before : r.spans.splits ≡ q.spans.splits → r.spans.splits ≡ p.spans.splits
    splits_before same = same ∙ so_far.splits
