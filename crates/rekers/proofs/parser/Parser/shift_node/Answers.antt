-- The shift from one node: where it moves on the token, the node behind its move has a link down to it.
use Rattle.std.proofs.Common.{◌++◌, [], ◌∷◌, length, refl, ◌∙◌, ap, arith}
use Rattle.std.proofs.lemmas.Result.{err_from_is_err_and}
use Rattle.gss.specs.PlaceGraphs.{edge_of}
use Rattle.packed_spans.specs.declared.span.TheConstants.{TOKEN_PART}
use Rattle.rekers.specs.declared.parser.Parser.{Parser}
use Rattle.rekers.specs.Answers.{kinds_of}
use Rattle.rekers.specs.Found.{found}
use Rattle.rekers.proofs.Growth.{kernel_at, node_below}
use Rattle.rekers.proofs.PlacedNodes.{never_true}
use Rattle.rekers.proofs.Shifted.{token_linkable, token_part, unlinked_on, shift_step, splits_same}
use Rattle.rekers.proofs.ShiftedLink.{within_room, state_below, few_after, shift_on, linkable_after, upper_after, unlinked_after, linked_at}
use Rattle.rekers.proofs.Stepping.{step_none}
use Rattle.rekers.proofs.Unless.{unless_always, unless_memory}
use Rattle.rekers.proofs.parser.Parser.shift_node.Goals as goal

pub place-state-requires : goal.place-state-requires
place-state-requires g c = node_below c.requires.node.node_is

pub has_move-requires : goal.has_move-requires
has_move-requires g c =
    state_below (g.G.Graph.means c.args.graph.now).grammar.rules (kinds_of c.args.tokens.now) c.args.self.now c.requires.sound c.args.node c.place-state.result
    c.place-state.ensures

pub returns-then-not-has_move-clause-step : goal.returns-then-not-has_move-clause-step
returns-then-not-has_move-clause-step g c =
    step_none (kinds_of c.args.tokens.now) c.args.self.now (g.G.Graph.means c.args.graph.now) c.args.steps.now c.requires.sound

pub returns-then-not-has_move-clause-shifted : goal.returns-then-not-has_move-clause-shifted
returns-then-not-has_move-clause-shifted g c = λ kernel i n moves.
    let rules = (g.G.Graph.means c.args.graph.now).grammar.rules in
    absurd (never_true ((c.if-not-has_move.ensures rules kernel c.requires.sound.expanded (kernel_at n c.place-state.ensures).0).1 moves))

pub upper-requires-clause-linkable : goal.upper-requires-clause-linkable
upper-requires-clause-linkable g c =
    let rules = (g.G.Graph.means c.args.graph.now).grammar.rules in
    let p = c.args.self.now in
    let shift = c.requires.node in
    token_linkable rules (kinds_of c.args.tokens.now) (found p) c.args.node c.args.kind p.level.at shift
    ((c.if-not-has_move.ensures rules shift.kernel c.requires.sound.expanded (kernel_at shift.node_is c.place-state.ensures).0).0 refl)

pub upper-requires-clause-room : goal.upper-requires-clause-room
upper-requires-clause-room g c = (within_room c.args.self.now c.requires.within).0

pub attach-requires-clause-linkable : goal.attach-requires-clause-linkable
attach-requires-clause-linkable g c =
    let rules = (g.G.Graph.means c.args.graph.now).grammar.rules in
    let p = c.args.self.now in
    let shift = c.requires.node in
    let linkable = token_linkable rules (kinds_of c.args.tokens.now) (found p) c.args.node c.args.kind p.level.at shift
    ((c.if-not-has_move.ensures rules shift.kernel c.requires.sound.expanded (kernel_at shift.node_is c.place-state.ensures).0).0 refl) in
    linkable_after (kinds_of c.args.tokens.now) p c.upper.new.self (g.G.Graph.means c.args.graph.now).grammar (g.G.Graph.means c.upper.new.graph).grammar
    c.in_ok-upper.ensures.stands.grammar c.in_ok-upper.ensures.grows (ap (λ (x : Parser). x.level) c.in_ok-upper.ensures.same) c.args.node c.args.kind linkable

pub attach-requires-clause-upper : goal.attach-requires-clause-upper
attach-requires-clause-upper g c =
    upper_after (kinds_of c.args.tokens.now) c.args.self.now c.upper.new.self (g.G.Graph.means c.args.graph.now).grammar
    (g.G.Graph.means c.upper.new.graph).grammar c.in_ok-upper.ensures.stands.grammar c.in_ok-upper.ensures.grows
    (ap (λ (x : Parser). x.level) c.in_ok-upper.ensures.same) c.args.node c.args.kind c.in_ok-upper.upper c.in_ok-upper.ensures.upper

pub attach-requires-clause-unlinked : goal.attach-requires-clause-unlinked
attach-requires-clause-unlinked g c =
    unlinked_after (kinds_of c.args.tokens.now) c.args.self.now c.upper.new.self (g.G.Graph.means c.args.graph.now).grammar
    (g.G.Graph.means c.upper.new.graph).grammar c.in_ok-upper.ensures.stands.grammar c.in_ok-upper.ensures.grows
    (ap (λ (x : Parser). x.level) c.in_ok-upper.ensures.same) c.args.node c.args.kind c.in_ok-upper.ensures.links c.requires.unlinked

pub attach-requires-clause-label : goal.attach-requires-clause-label
attach-requires-clause-label g c = λ place there.
    let tokens = kinds_of c.args.tokens.now in
    let q = c.upper.new.self in
    let shift = shift_on tokens c.args.self.now q (g.G.Graph.means c.args.graph.now).grammar (g.G.Graph.means c.upper.new.graph).grammar
    c.in_ok-upper.ensures.stands.grammar c.in_ok-upper.ensures.grows (ap (λ (x : Parser). x.level) c.in_ok-upper.ensures.same) c.args.node c.args.kind
    c.requires.node in
    token_part (g.G.Graph.means c.upper.new.graph).grammar.rules tokens (found q) c.args.node c.args.kind q.level.at shift c.in_ok-upper.ensures.sound.terminals
    q.spans.spans place there

pub attach-requires-clause-room : goal.attach-requires-clause-room
attach-requires-clause-room g c =
    let room = (within_room c.args.self.now c.requires.within).1 in omega (arith, room, ap length c.in_ok-upper.ensures.links)

pub check_size-requires : goal.check_size-requires
check_size-requires g c =
    few_after c.args.self.now c.upper.new.self c.attach.new.self (edge_of c.in_ok-upper.upper c.args.kind c.args.node TOKEN_PART) c.requires.within.few
    c.in_ok-upper.ensures.count c.in_ok-upper.ensures.links c.in_ok-attach.ensures.nodes c.in_ok-attach.ensures.links

pub returns-in_err-upper-clause-step : goal.returns-in_err-upper-clause-step
returns-in_err-upper-clause-step g c =
    unless_memory _ c.from_residual.result (err_from_is_err_and c.from_residual.result c.from_residual.ensures.1)

pub returns-in_err-upper-clause-splits : goal.returns-in_err-upper-clause-splits
returns-in_err-upper-clause-splits g c =
    unless_memory _ c.from_residual.result (err_from_is_err_and c.from_residual.result c.from_residual.ensures.1)

pub returns-in_err-attach-clause-step : goal.returns-in_err-attach-clause-step
returns-in_err-attach-clause-step g c =
    unless_memory _ c.from_residual-in_err-attach.result (err_from_is_err_and c.from_residual-in_err-attach.result c.from_residual-in_err-attach.ensures.1)

pub returns-in_err-attach-clause-splits : goal.returns-in_err-attach-clause-splits
returns-in_err-attach-clause-splits g c =
    unless_memory _ c.from_residual-in_err-attach.result (err_from_is_err_and c.from_residual-in_err-attach.result c.from_residual-in_err-attach.ensures.1)

pub returns-in_err-check_size-clause-step : goal.returns-in_err-check_size-clause-step
returns-in_err-check_size-clause-step g c =
    unless_always c.from_residual-in_err-check_size.result
    (shift_step (kinds_of c.args.tokens.now) c.args.self.now c.upper.new.self c.attach.new.self c.in_ok-upper.ensures.same c.in_ok-attach.ensures.same
    (edge_of c.in_ok-upper.upper c.args.kind c.args.node TOKEN_PART) c.in_ok-attach.ensures.nodes c.in_ok-attach.ensures.links
    (g.G.Graph.means c.args.graph.now) (g.G.Graph.means c.upper.new.graph) c.args.steps.now c.upper.new.steps c.in_ok-upper.ensures.grows
    c.in_ok-upper.ensures.placed c.in_ok-upper.ensures.asks c.in_ok-attach.ensures.sound)

pub returns-in_err-check_size-clause-splits : goal.returns-in_err-check_size-clause-splits
returns-in_err-check_size-clause-splits g c =
    unless_always c.from_residual-in_err-check_size.result
    (splits_same (kinds_of c.args.tokens.now) c.args.self.now c.upper.new.self c.attach.new.self c.in_ok-upper.ensures.same c.in_ok-attach.ensures.same
    (edge_of c.in_ok-upper.upper c.args.kind c.args.node TOKEN_PART) c.in_ok-attach.ensures.nodes c.in_ok-attach.ensures.links)

pub returns-clause-step : goal.returns-clause-step
returns-clause-step g c =
    shift_step (kinds_of c.args.tokens.now) c.args.self.now c.upper.new.self c.attach.new.self c.in_ok-upper.ensures.same c.in_ok-attach.ensures.same
    (edge_of c.in_ok-upper.upper c.args.kind c.args.node TOKEN_PART) c.in_ok-attach.ensures.nodes c.in_ok-attach.ensures.links
    (g.G.Graph.means c.args.graph.now) (g.G.Graph.means c.upper.new.graph) c.args.steps.now c.upper.new.steps c.in_ok-upper.ensures.grows
    c.in_ok-upper.ensures.placed c.in_ok-upper.ensures.asks c.in_ok-attach.ensures.sound

pub returns-clause-shifted : goal.returns-clause-shifted
returns-clause-shifted g c = λ kernel i n moves. (
  c.in_ok-attach.field-0,
  linked_at (kinds_of c.args.tokens.now) c.args.self.now c.upper.new.self (g.G.Graph.means c.args.graph.now).grammar (g.G.Graph.means c.upper.new.graph).grammar
      c.in_ok-upper.ensures.stands.grammar c.in_ok-upper.ensures.grows (ap (λ (x : Parser). x.level) c.in_ok-upper.ensures.same) c.args.node c.args.kind
      c.attach.new.self c.in_ok-attach.field-0 c.in_ok-attach.ensures.link,
)

pub returns-clause-others : goal.returns-clause-others
returns-clause-others g c =
    let edge = edge_of c.in_ok-upper.upper c.args.kind c.args.node TOKEN_PART in
    λ other differs none.
    unlinked_on (found c.args.self.now) (found c.attach.new.self) c.in_ok-upper.upper c.args.kind c.args.node TOKEN_PART
    (c.in_ok-attach.ensures.links ∙ ap (λ ls. ls ++ edge ∷ []) c.in_ok-upper.ensures.links) c.args.self.now.level.first_link other c.args.kind differs none

pub returns-clause-splits : goal.returns-clause-splits
returns-clause-splits g c =
    splits_same (kinds_of c.args.tokens.now) c.args.self.now c.upper.new.self c.attach.new.self c.in_ok-upper.ensures.same c.in_ok-attach.ensures.same
    (edge_of c.in_ok-upper.upper c.args.kind c.args.node TOKEN_PART) c.in_ok-attach.ensures.nodes c.in_ok-attach.ensures.links
