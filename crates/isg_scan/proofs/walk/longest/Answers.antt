use Rattle.std.proofs.Common.{◌≡◌, ◌<◌, ◌-◌, Some, length, get_or, slice_get, sym, subst, arith}
use Rattle.std.proofs.lemmas.Option.{slice_get-get_or}
use Rattle.isg_scan.proofs.Reading.{next_inside, next_walk, next_stops, bytes_below}
use Rattle.isg_scan.proofs.Readings.{reading_asked}
use Rattle.isg_scan.proofs.WalkSteps.{walk_ends}
use Rattle.isg_scan.proofs.walk.longest.Goals as goal

pub returns-then-entry-eq-NOWHERE-clause-walked : goal.returns-then-entry-eq-NOWHERE-clause-walked
returns-then-entry-eq-NOWHERE-clause-walked g c =
    let old = g.G.Graph.means c.args.graph.now in
    let now = g.G.Graph.means c.bytes.graph in
    let new = g.G.Graph.means c.entry.new.graph in
    let text = c.args.text.now in
    let at = c.bytes.walk.at in
    let state = c.bytes.walk.state in
    let best = c.bytes.walk.best in
    let known = c.entry.new.self in
    let reading = reading_asked old text now new c.bytes.states.keys.keys known.keys.keys c.bytes.states.accepted.items known.accepted.items
    c.bytes.states.table.items known.table.items at state best
    c.args.steps.now c.bytes.steps c.entry.new.steps c.bytes.invariant c.bytes-test.true c.in_ok-entry.ensures.asks c.in_ok-entry.ensures.stands
    c.in_ok-entry.ensures.never_back
    c.in_ok-entry.ensures.keeps c.in_ok-entry.ensures.knows in
    let small = bytes_below text (λ i. (c.type_inv.text i).fits) in
    let byte = get_or text at 0 in
    let here = slice_get-get_or text at 0 c.bytes-test.true in
    let less = (c.type_inv.text at).fits in
    next_stops new.grammar new.scans.keys known.keys.keys known.accepted.items known.table.items text small at state best reading.knows reading.walk byte
    c.in_ok-entry.entry here less c.in_ok-entry.ensures.entry.1 c.if-entry-eq-NOWHERE.true

pub returns-then-entry-eq-NOWHERE-clause-asks : goal.returns-then-entry-eq-NOWHERE-clause-asks
returns-then-entry-eq-NOWHERE-clause-asks g c =
    let old = g.G.Graph.means c.args.graph.now in
    let now = g.G.Graph.means c.bytes.graph in
    let new = g.G.Graph.means c.entry.new.graph in
    let text = c.args.text.now in
    let at = c.bytes.walk.at in
    let state = c.bytes.walk.state in
    let best = c.bytes.walk.best in
    let known = c.entry.new.self in
    let reading = reading_asked old text now new c.bytes.states.keys.keys known.keys.keys c.bytes.states.accepted.items known.accepted.items
    c.bytes.states.table.items known.table.items at state best
    c.args.steps.now c.bytes.steps c.entry.new.steps c.bytes.invariant c.bytes-test.true c.in_ok-entry.ensures.asks c.in_ok-entry.ensures.stands
    c.in_ok-entry.ensures.never_back
    c.in_ok-entry.ensures.keeps c.in_ok-entry.ensures.knows in
    reading.asks

pub with_byte-next-requires-clause-state : goal.with_byte-next-requires-clause-state
with_byte-next-requires-clause-state g c =
    let old = g.G.Graph.means c.args.graph.now in
    let now = g.G.Graph.means c.bytes.graph in
    let new = g.G.Graph.means c.entry.new.graph in
    let text = c.args.text.now in
    let at = c.bytes.walk.at in
    let state = c.bytes.walk.state in
    let best = c.bytes.walk.best in
    let known = c.entry.new.self in
    let reading = reading_asked old text now new c.bytes.states.keys.keys known.keys.keys c.bytes.states.accepted.items known.accepted.items
    c.bytes.states.table.items known.table.items at state best
    c.args.steps.now c.bytes.steps c.entry.new.steps c.bytes.invariant c.bytes-test.true c.in_ok-entry.ensures.asks c.in_ok-entry.ensures.stands
    c.in_ok-entry.ensures.never_back
    c.in_ok-entry.ensures.keeps c.in_ok-entry.ensures.knows in
    let small = bytes_below text (λ i. (c.type_inv.text i).fits) in
    let byte = get_or text at 0 in
    let here = slice_get-get_or text at 0 c.bytes-test.true in
    let less = (c.type_inv.text at).fits in
    let inside = next_inside new.grammar new.scans.keys known.keys.keys known.accepted.items known.table.items text small at state best reading.knows
    reading.walk byte c.in_ok-entry.entry here less c.in_ok-entry.ensures.entry.1 (omega (
      arith,
      c.in_ok-entry.ensures.entry.0,
      c.if-entry-eq-NOWHERE.false,
    )) in
    subst (λ list. c.in_ok-entry.entry - 2 < length list) (sym c.deref.ensures.value) inside

pub read_on-walk-requires-clause-walk : goal.read_on-walk-requires-clause-walk
read_on-walk-requires-clause-walk g c =
    let old = g.G.Graph.means c.args.graph.now in
    let now = g.G.Graph.means c.bytes.graph in
    let new = g.G.Graph.means c.entry.new.graph in
    let text = c.args.text.now in
    let at = c.bytes.walk.at in
    let state = c.bytes.walk.state in
    let best = c.bytes.walk.best in
    let known = c.entry.new.self in
    let reading = reading_asked old text now new c.bytes.states.keys.keys known.keys.keys c.bytes.states.accepted.items known.accepted.items
    c.bytes.states.table.items known.table.items at state best
    c.args.steps.now c.bytes.steps c.entry.new.steps c.bytes.invariant c.bytes-test.true c.in_ok-entry.ensures.asks c.in_ok-entry.ensures.stands
    c.in_ok-entry.ensures.never_back
    c.in_ok-entry.ensures.keeps c.in_ok-entry.ensures.knows in
    let small = bytes_below text (λ i. (c.type_inv.text i).fits) in
    let byte = get_or text at 0 in
    let here = slice_get-get_or text at 0 c.bytes-test.true in
    let less = (c.type_inv.text at).fits in
    next_walk new.grammar new.scans.keys known.keys.keys known.accepted.items known.table.items text small at state best reading.knows reading.walk byte
    c.in_ok-entry.entry here less c.in_ok-entry.ensures.entry.1 (omega (arith, c.in_ok-entry.ensures.entry.0, c.if-entry-eq-NOWHERE.false))
    c.with_byte-next.result.at c.with_byte-next.result.state
    c.with_byte-next.result.best c.with_byte-next.ensures.at c.with_byte-next.ensures.state
    (λ kind there. c.with_byte-next.ensures.best kind (subst (λ list. slice_get list (c.in_ok-entry.entry - 2) ≡ Some kind) (sym c.deref.ensures.value) there))

pub bytes-preserved : goal.bytes-preserved
bytes-preserved g c =
    let old = g.G.Graph.means c.args.graph.now in
    let now = g.G.Graph.means c.bytes.graph in
    let new = g.G.Graph.means c.entry.new.graph in
    let text = c.args.text.now in
    let at = c.bytes.walk.at in
    let state = c.bytes.walk.state in
    let best = c.bytes.walk.best in
    let known = c.entry.new.self in
    let reading = reading_asked old text now new c.bytes.states.keys.keys known.keys.keys c.bytes.states.accepted.items known.accepted.items
    c.bytes.states.table.items known.table.items at state best
    c.args.steps.now c.bytes.steps c.entry.new.steps c.bytes.invariant c.bytes-test.true c.in_ok-entry.ensures.asks c.in_ok-entry.ensures.stands
    c.in_ok-entry.ensures.never_back
    c.in_ok-entry.ensures.keeps c.in_ok-entry.ensures.knows in
    record { knows = reading.knows; walk = c.read_on-walk.ensures.walk; asks = reading.asks; stands = reading.stands; never_back = reading.never_back }

pub returns-clause-walked : goal.returns-clause-walked
returns-clause-walked g c =
    let now = g.G.Graph.means c.bytes.graph in
    let text = c.args.text.now in
    let walk = c.bytes.invariant.walk in
    walk_ends now.grammar now.scans.keys c.bytes.states.keys.keys text (bytes_below text (λ i. (c.type_inv.text i).fits)) c.bytes.walk.at
    c.bytes.walk.state c.bytes.walk.best walk
    (omega (arith, c.bytes-test.false, walk.within))
