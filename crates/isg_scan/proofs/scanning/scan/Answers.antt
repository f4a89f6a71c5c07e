use Rattle.std.proofs.Common.{drop, sym, subst}
use Rattle.live_graph.specs.Cost.{RisesAsCost}
use Rattle.isg_scan.specs.Answers.{IsScanEnd}
use Rattle.isg_scan.specs.Asked.{AsksOnly}
use Rattle.isg_scan.specs.Reach.{MeetsState}
use Rattle.isg_scan.specs.Walks.{IsPieceWalked}
use Rattle.isg_scan.proofs.ScannedTexts.{rest_is}
use Rattle.isg_scan.proofs.Refusals.{if_err_from, refusal_ends, refusal_unless}
use Rattle.isg_scan.proofs.Scans.{IsScanning, AsksReached, scan_start, scan_ends, all_asks, scan_stops, scan_full, scan_more}
use Rattle.isg_scan.proofs.scanning.scan.Goals as goal

pub pieces-init : goal.pieces-init
pieces-init g c =
    let old = g.G.Graph.means c.args.graph.now in
    let states = c.in_ok-states.states in
    subst (λ found. IsScanning old old states.keys.keys states.accepted.items states.table.items c.args.text.now 0 found c.args.steps.now c.args.steps.now)
    (sym c.new-tokens.ensures.items)
    (scan_start old c.args.text.now states.keys.keys states.accepted.items states.table.items c.args.steps.now (c.in_ok-states.ensures old.grammar
    old.scans.keys))

pub returns-in_default-clause-refused : goal.returns-in_default-clause-refused
returns-in_default-clause-refused g c =
    let old = g.G.Graph.means c.args.graph.now in
    let now = g.G.Graph.means c.pieces.graph in
    let new = g.G.Graph.means c.longest.new.graph in
    let text = c.args.text.now in
    let offset = c.pieces.offset in
    let rest = rest_is text offset in
    let walked = subst (λ t. IsPieceWalked new.grammar new.scans.keys t c.in_ok-length.field-0) rest c.in_ok-length.ensures.walked in
    let asks : AsksOnly (MeetsState now.grammar (drop offset text)) now new c.pieces.steps c.longest.new.steps =
    subst (λ t. AsksOnly (MeetsState now.grammar t) now new c.pieces.steps c.longest.new.steps) rest c.in_ok-length.ensures.asks in
    (scan_stops old text now c.pieces.states.keys.keys c.pieces.states.accepted.items c.pieces.states.table.items offset c.pieces.tokens.items
    c.args.steps.now c.pieces.steps c.pieces.invariant new c.longest.new.steps
    c.in_ok-length.field-0 walked asks c.in_ok-length.ensures.stands c.in_ok-length.ensures.never_back c.pieces-test.true c.in_default.is).0

pub returns-in_default-clause-asked : goal.returns-in_default-clause-asked
returns-in_default-clause-asked g c =
    let old = g.G.Graph.means c.args.graph.now in
    let now = g.G.Graph.means c.pieces.graph in
    let new = g.G.Graph.means c.longest.new.graph in
    let text = c.args.text.now in
    let offset = c.pieces.offset in
    let rest = rest_is text offset in
    let walked = subst (λ t. IsPieceWalked new.grammar new.scans.keys t c.in_ok-length.field-0) rest c.in_ok-length.ensures.walked in
    let asks : AsksOnly (MeetsState now.grammar (drop offset text)) now new c.pieces.steps c.longest.new.steps =
    subst (λ t. AsksOnly (MeetsState now.grammar t) now new c.pieces.steps c.longest.new.steps) rest c.in_ok-length.ensures.asks in
    (scan_stops old text now c.pieces.states.keys.keys c.pieces.states.accepted.items c.pieces.states.table.items offset c.pieces.tokens.items
    c.args.steps.now c.pieces.steps c.pieces.invariant new c.longest.new.steps
    c.in_ok-length.field-0 walked asks c.in_ok-length.ensures.stands c.in_ok-length.ensures.never_back c.pieces-test.true c.in_default.is).1

pub returns-in_default-clause-steps : goal.returns-in_default-clause-steps
returns-in_default-clause-steps g c =
    let old = g.G.Graph.means c.args.graph.now in
    let now = g.G.Graph.means c.pieces.graph in
    let new = g.G.Graph.means c.longest.new.graph in
    let text = c.args.text.now in
    let offset = c.pieces.offset in
    let rest = rest_is text offset in
    let walked = subst (λ t. IsPieceWalked new.grammar new.scans.keys t c.in_ok-length.field-0) rest c.in_ok-length.ensures.walked in
    let asks : AsksOnly (MeetsState now.grammar (drop offset text)) now new c.pieces.steps c.longest.new.steps =
    subst (λ t. AsksOnly (MeetsState now.grammar t) now new c.pieces.steps c.longest.new.steps) rest c.in_ok-length.ensures.asks in
    (all_asks old text now c.pieces.states.keys.keys c.pieces.states.accepted.items c.pieces.states.table.items offset c.pieces.tokens.items
    c.args.steps.now c.pieces.steps c.pieces.invariant new c.longest.new.steps
    c.in_ok-length.field-0 walked asks c.in_ok-length.ensures.stands c.in_ok-length.ensures.never_back).rises

pub returns-in_err-take_piece-clause-refused : goal.returns-in_err-take_piece-clause-refused
returns-in_err-take_piece-clause-refused g c =
    let old = g.G.Graph.means c.args.graph.now in
    let now = g.G.Graph.means c.pieces.graph in
    let new = g.G.Graph.means c.longest.new.graph in
    let text = c.args.text.now in
    let offset = c.pieces.offset in
    let rest = rest_is text offset in
    let walked = subst (λ t. IsPieceWalked new.grammar new.scans.keys t c.in_ok-length.field-0) rest c.in_ok-length.ensures.walked in
    let asks : AsksOnly (MeetsState now.grammar (drop offset text)) now new c.pieces.steps c.longest.new.steps =
    subst (λ t. AsksOnly (MeetsState now.grammar t) now new c.pieces.steps c.longest.new.steps) rest c.in_ok-length.ensures.asks in
    if_err_from c.from_residual-in_err-take_piece.result c.in_err-take_piece.field-0.0 (IsScanEnd old.grammar text) c.from_residual-in_err-take_piece.ensures.1
    (refusal_ends old.grammar text c.in-Some.kind offset c.pieces.tokens.items c.in_err-take_piece.field-0.0 c.in_err-take_piece.ensures.refused
    (λ symbol kind all. (scan_full old text now c.pieces.states.keys.keys c.pieces.states.accepted.items c.pieces.states.table.items offset
    c.pieces.tokens.items c.args.steps.now c.pieces.steps c.pieces.invariant new c.longest.new.steps
    c.in_ok-length.field-0 walked asks c.in_ok-length.ensures.stands c.in_ok-length.ensures.never_back c.in-Some.length c.in-Some.kind c.in-Some.is symbol
    kind all).0))

pub returns-in_err-take_piece-clause-asked : goal.returns-in_err-take_piece-clause-asked
returns-in_err-take_piece-clause-asked g c =
    let old = g.G.Graph.means c.args.graph.now in
    let now = g.G.Graph.means c.pieces.graph in
    let new = g.G.Graph.means c.longest.new.graph in
    let text = c.args.text.now in
    let offset = c.pieces.offset in
    let rest = rest_is text offset in
    let walked = subst (λ t. IsPieceWalked new.grammar new.scans.keys t c.in_ok-length.field-0) rest c.in_ok-length.ensures.walked in
    let asks : AsksOnly (MeetsState now.grammar (drop offset text)) now new c.pieces.steps c.longest.new.steps =
    subst (λ t. AsksOnly (MeetsState now.grammar t) now new c.pieces.steps c.longest.new.steps) rest c.in_ok-length.ensures.asks in
    refusal_unless old.grammar text c.in-Some.kind offset c.pieces.tokens.items c.from_residual-in_err-take_piece.result c.in_err-take_piece.field-0.0
    (AsksReached old new text) c.from_residual-in_err-take_piece.ensures c.in_err-take_piece.ensures.refused
    (λ symbol kind all. (scan_full old text now c.pieces.states.keys.keys c.pieces.states.accepted.items c.pieces.states.table.items offset
    c.pieces.tokens.items c.args.steps.now c.pieces.steps c.pieces.invariant new c.longest.new.steps
    c.in_ok-length.field-0 walked asks c.in_ok-length.ensures.stands c.in_ok-length.ensures.never_back c.in-Some.length c.in-Some.kind c.in-Some.is symbol
    kind all).1)

pub returns-in_err-take_piece-clause-steps : goal.returns-in_err-take_piece-clause-steps
returns-in_err-take_piece-clause-steps g c =
    let old = g.G.Graph.means c.args.graph.now in
    let now = g.G.Graph.means c.pieces.graph in
    let new = g.G.Graph.means c.longest.new.graph in
    let text = c.args.text.now in
    let offset = c.pieces.offset in
    let rest = rest_is text offset in
    let walked = subst (λ t. IsPieceWalked new.grammar new.scans.keys t c.in_ok-length.field-0) rest c.in_ok-length.ensures.walked in
    let asks : AsksOnly (MeetsState now.grammar (drop offset text)) now new c.pieces.steps c.longest.new.steps =
    subst (λ t. AsksOnly (MeetsState now.grammar t) now new c.pieces.steps c.longest.new.steps) rest c.in_ok-length.ensures.asks in
    let rises : RisesAsCost old new c.args.steps.now c.longest.new.steps = (all_asks old text now c.pieces.states.keys.keys c.pieces.states.accepted.items
    c.pieces.states.table.items offset c.pieces.tokens.items c.args.steps.now c.pieces.steps c.pieces.invariant new c.longest.new.steps
    c.in_ok-length.field-0 walked asks c.in_ok-length.ensures.stands c.in_ok-length.ensures.never_back).rises in
    refusal_unless old.grammar text c.in-Some.kind offset c.pieces.tokens.items c.from_residual-in_err-take_piece.result c.in_err-take_piece.field-0.0
    (RisesAsCost old new c.args.steps.now c.longest.new.steps) c.from_residual-in_err-take_piece.ensures c.in_err-take_piece.ensures.refused
    (λ symbol kind all. rises)

pub pieces-preserved : goal.pieces-preserved
pieces-preserved g c =
    let old = g.G.Graph.means c.args.graph.now in
    let now = g.G.Graph.means c.pieces.graph in
    let new = g.G.Graph.means c.longest.new.graph in
    let text = c.args.text.now in
    let offset = c.pieces.offset in
    let rest = rest_is text offset in
    let walked = subst (λ t. IsPieceWalked new.grammar new.scans.keys t c.in_ok-length.field-0) rest c.in_ok-length.ensures.walked in
    let asks : AsksOnly (MeetsState now.grammar (drop offset text)) now new c.pieces.steps c.longest.new.steps =
    subst (λ t. AsksOnly (MeetsState now.grammar t) now new c.pieces.steps c.longest.new.steps) rest c.in_ok-length.ensures.asks in
    scan_more old text now c.pieces.states.keys.keys c.pieces.states.accepted.items c.pieces.states.table.items offset c.pieces.tokens.items
    c.args.steps.now c.pieces.steps c.pieces.invariant new c.longest.new.steps
    c.in_ok-length.field-0 walked asks c.in_ok-length.ensures.stands c.in_ok-length.ensures.never_back c.in-Some.length c.in-Some.kind c.in-Some.is
    c.longest.new.states.keys.keys c.longest.new.states.accepted.items c.longest.new.states.table.items c.in_ok-length.ensures.knows
    c.take_piece.new.tokens.items c.in_ok-take_piece.ensures.taken

pub returns-clause-tokens : goal.returns-clause-tokens
returns-clause-tokens g c =
    let old = g.G.Graph.means c.args.graph.now in
    let now = g.G.Graph.means c.pieces.graph in
    let text = c.args.text.now in
    let offset = c.pieces.offset in
    (scan_ends old text now c.pieces.states.keys.keys c.pieces.states.accepted.items c.pieces.states.table.items offset c.pieces.tokens.items
    c.args.steps.now c.pieces.steps c.pieces.invariant c.pieces-test.false).0

pub returns-clause-asked : goal.returns-clause-asked
returns-clause-asked g c =
    let old = g.G.Graph.means c.args.graph.now in
    let now = g.G.Graph.means c.pieces.graph in
    let text = c.args.text.now in
    let offset = c.pieces.offset in
    (scan_ends old text now c.pieces.states.keys.keys c.pieces.states.accepted.items c.pieces.states.table.items offset c.pieces.tokens.items
    c.args.steps.now c.pieces.steps c.pieces.invariant c.pieces-test.false).1
