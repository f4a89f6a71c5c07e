use Rattle.std.proofs.Common.{◌≡◌, ◌<◌, ◌+◌, ◌-◌, ◌*◌, Some, length, get_or, slice_get, sym, ap, ◌∙◌, subst, arith}
use Rattle.std.proofs.lemmas.Option.{slice_get_within, slice_get-get_or}
use Rattle.isg_scan.proofs.Reading.{next_inside, next_walk, bytes_below, row_there}
use Rattle.isg_scan.proofs.walk.read_on.Goals as goal

pub with_byte-walk-requires-clause-state : goal.with_byte-walk-requires-clause-state
with_byte-walk-requires-clause-state g c =
    let graph = g.G.Graph.means c.args._graph.now in
    let states = c.args.states.now in
    let walk = c.bytes.invariant.0 in
    let less : c.from.result < 256 = subst (λ b. b < 256) (sym c.from.ensures) ((c.type_inv.text c.bytes.walk.at).fits) in
    let here : slice_get c.args.text.now c.bytes.walk.at ≡ Some c.from.result = slice_get-get_or c.args.text.now c.bytes.walk.at 0 c.bytes-test.true ∙ ap
    Some (sym c.from.ensures) in
    let place = 256 * c.bytes.walk.state + c.from.result in
    let entry = get_or c.as_slice-table.result.now place 0 in
    let within = row_there states.table.items (length states.keys.keys) c.bytes.walk.state c.from.result c.requires.knows.entries.size (slice_get_within
    states.keys.keys c.bytes.walk.state walk.key walk.number) less in
    let is : slice_get states.table.items place ≡ Some entry = slice_get-get_or states.table.items place 0 within ∙ ap (λ list. Some (get_or list place 0))
    (sym c.as_slice-table.ensures.value) in
    let inside = next_inside graph.grammar graph.scans.keys states.keys.keys states.accepted.items states.table.items c.args.text.now (bytes_below
    c.args.text.now (λ i. (c.type_inv.text i).fits)) c.bytes.walk.at c.bytes.walk.state
    c.bytes.walk.best c.requires.knows walk c.from.result entry here less is c.if-entry-le-NOWHERE.false in
    subst (λ list. entry - 2 < length list) (sym c.as_slice-accepted.ensures.value) inside

pub bytes-preserved : goal.bytes-preserved
bytes-preserved g c =
    let graph = g.G.Graph.means c.args._graph.now in
    let states = c.args.states.now in
    let walk = c.bytes.invariant.0 in
    let less : c.from.result < 256 = subst (λ b. b < 256) (sym c.from.ensures) ((c.type_inv.text c.bytes.walk.at).fits) in
    let here : slice_get c.args.text.now c.bytes.walk.at ≡ Some c.from.result = slice_get-get_or c.args.text.now c.bytes.walk.at 0 c.bytes-test.true ∙ ap
    Some (sym c.from.ensures) in
    let place = 256 * c.bytes.walk.state + c.from.result in
    let entry = get_or c.as_slice-table.result.now place 0 in
    let within = row_there states.table.items (length states.keys.keys) c.bytes.walk.state c.from.result c.requires.knows.entries.size (slice_get_within
    states.keys.keys c.bytes.walk.state walk.key walk.number) less in
    let is : slice_get states.table.items place ≡ Some entry = slice_get-get_or states.table.items place 0 within ∙ ap (λ list. Some (get_or list place 0))
    (sym c.as_slice-table.ensures.value) in (
      next_walk graph.grammar graph.scans.keys states.keys.keys states.accepted.items states.table.items c.args.text.now (bytes_below c.args.text.now (λ i.
          (c.type_inv.text i).fits)) c.bytes.walk.at c.bytes.walk.state
          c.bytes.walk.best c.requires.knows walk c.from.result entry here less is c.if-entry-le-NOWHERE.false c.with_byte-walk.result.at
          c.with_byte-walk.result.state c.with_byte-walk.result.best
          c.with_byte-walk.ensures.at c.with_byte-walk.ensures.state
          (λ kind there. c.with_byte-walk.ensures.best kind (subst (λ list. slice_get list (entry - 2) ≡ Some kind) (sym c.as_slice-accepted.ensures.value)
          there)),
      omega (arith, c.bytes.invariant.1, c.with_byte-walk.ensures.at),
    )
