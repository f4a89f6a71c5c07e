use Rattle.std.proofs.Common.{◌≡◌, ◌<◌, inl, inr, length, slice_get, Some, refl, sym, ◌∙◌, subst, arith}
use Rattle.std.proofs.lemmas.Bool.{cases_lt}
use Rattle.rekers.specs.Found.{found, IsNode}
use Rattle.rekers.specs.Answers.{kinds_of}
use Rattle.rekers.proofs.Growth.{one_kernel, kernel_at, node_below}
use Rattle.rekers.proofs.PlacedNodes.{never_true}
use Rattle.rekers.proofs.LinkSteps.{between_openers, openers_within, state_within}
use Rattle.rekers.proofs.parser.Parser.first_opener.Goals as goal

pub opener-first-requires : goal.opener-first-requires
opener-first-requires g c =
    let rules = (g.G.Graph.means c.args._graph.now).grammar.rules in
    let at = (kernel_at c.requires.linkable.node c.place-at.ensures).1 in
    subst (λ i. i < length c.args.self.now.openers.items) (sym at)
    (openers_within rules (kinds_of c.args._tokens.now) c.args.self.now c.requires.sound c.args.node c.requires.linkable.from c.requires.linkable.kernel
    c.requires.linkable.node)

pub loop-other-init : goal.loop-other-init
loop-other-init g c = λ other i kernel own n at less moves.
    let p = c.args.self.now in
    let place = (kernel_at at c.place-at.ensures).1 in
    let noted : slice_get p.openers.items i ≡ Some c.opener-first.result = subst (λ k. slice_get p.openers.items k ≡ Some c.opener-first.result) place
    c.opener-first.ensures in
    (c.requires.sound.openers.each i c.opener-first.result noted).none_before other kernel n less (c.args.symbol, moves, c.requires.nonterminal)

pub place-requires : goal.place-requires
place-requires g c = omega (arith, c.loop-other-test.true, node_below c.requires.linkable.node)

pub has_move-requires : goal.has_move-requires
has_move-requires g c =
    let rules = (g.G.Graph.means c.args._graph.now).grammar.rules in
    state_within rules (kinds_of c.args._tokens.now) (found c.args.self.now) c.requires.sound.graph c.loop-other.other c.place.result c.place.ensures

pub returns-then-has_move : goal.returns-then-has_move
returns-then-has_move g c =
    let rules = (g.G.Graph.means c.args._graph.now).grammar.rules in
    let p = c.args.self.now in
    let node = c.requires.linkable.node in
    let from = c.requires.linkable.from in
    let noted : slice_get p.openers.items from ≡ Some c.opener-first.result =
    subst (λ k. slice_get p.openers.items k ≡ Some c.opener-first.result) (kernel_at node c.place-at.ensures).1 c.opener-first.ensures in
    let (kernel, named, reached) = c.requires.sound.graph.nodes c.loop-other.other c.place.result c.place.ensures in
    let at = between_openers rules (kinds_of c.args._tokens.now) p c.requires.sound c.args.node c.loop-other.other from c.opener-first.result
    c.requires.linkable.kernel node
    noted c.loop-other.auto.other (omega (arith, c.loop-other-test.true)) c.place.result c.place.ensures in
    let own : IsNode (found p) c.loop-other.other kernel c.place.result.at = record { state = c.place.result.state; there = c.place.ensures; is_kernel = named }
    in
    record {
      from = from;
      own = c.requires.linkable.kernel;
      node_is = node;
      kernel = kernel;
      first_is = subst (λ i. IsNode (found p) c.loop-other.other kernel i) at own;
      moves = (c.if-has_move.ensures rules kernel c.requires.sound.expanded named).0 refl;
      none_before = λ other i k o n is less moves.
          let here : from ≡ i = sym at ∙ (one_kernel own is).1 in
          c.loop-other.invariant other i k c.requires.linkable.kernel n (subst (λ j. IsNode (found p) c.args.node c.requires.linkable.kernel j) here node) less
          moves;
    }

pub loop-other-preserved : goal.loop-other-preserved
loop-other-preserved g c = λ other i kernel own n at less moves. elim (cases_lt other c.loop-other.other) [
  | inl below ↦ c.loop-other.invariant other i kernel own n at below moves
  | inr above ↦
      let rules = (g.G.Graph.means c.args._graph.now).grammar.rules in
      let same : other ≡ c.loop-other.other = omega (arith, less, above) in
      let here : IsNode (found c.args.self.now) c.loop-other.other kernel i = subst (λ o. IsNode (found c.args.self.now) o kernel i) same n in
      never_true ((c.if-has_move.ensures rules kernel c.requires.sound.expanded (kernel_at here c.place.ensures).0).1 moves)
]

pub returns : goal.returns
returns g c = record {
  from = c.requires.linkable.from;
  own = c.requires.linkable.kernel;
  node_is = c.requires.linkable.node;
  kernel = c.requires.linkable.kernel;
  first_is = c.requires.linkable.node;
  moves = c.requires.linkable.moves;
  none_before = λ other i kernel own n at less moves. c.loop-other.invariant other i kernel own n at (omega (arith, less, c.loop-other-test.false)) moves;
}
