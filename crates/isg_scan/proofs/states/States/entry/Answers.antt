use Rattle.std.proofs.Common.{◌≡◌, ◌+◌, ◌*◌, length, get_or, Some, slice_get, refl, subst, arith}
use Rattle.std.proofs.lemmas.Option.{slice_get_read}
use Rattle.isg_states.specs.declared.scan_key.ScanKey.{ScanKey}
use Rattle.live_graph.specs.Asking.{AsksScan}
use Rattle.isg_scan.specs.Asked.{AsksOnly}
use Rattle.isg_scan.proofs.AskedKeys.{asks_one}
use Rattle.isg_scan.proofs.Reading.{some_at, on_ok_more, row_there}
use Rattle.isg_scan.proofs.states.States.entry.Goals as goal

pub returns-then-known-eq-UNKNOWN-clause-asks : goal.returns-then-known-eq-UNKNOWN-clause-asks
returns-then-known-eq-UNKNOWN-clause-asks g c =
    let old = g.G.Graph.means c.args.graph.now in
    let new = g.G.Graph.means c.learn.new.graph in
    let key = some_at c.args.self.now.keys.keys c.args.state c.requires.state in
    on_ok_more c.learn.result ((k : ScanKey) → slice_get c.args.self.now.keys.keys c.args.state ≡ Some k
    → AsksScan old k new c.args.steps.now c.learn.new.steps)
    (AsksOnly (λ k. slice_get c.args.self.now.keys.keys c.args.state ≡ Some k) old new c.args.steps.now c.learn.new.steps)
    (λ asks. asks_one (λ k. slice_get c.args.self.now.keys.keys c.args.state ≡ Some k) old new key.0 c.args.steps.now c.learn.new.steps key.1 (asks key.0
    key.1)) c.learn.ensures.asks

pub returns-clause-entry : goal.returns-clause-entry
returns-clause-entry g c =
    let within = row_there c.args.self.now.table.items (length c.args.self.now.keys.keys) c.args.state c.args.byte c.requires.knows.entries.size
    c.requires.state c.ranges.byte.fits in
    let known = c.index-known.result.now in
    let is : known ≡ get_or c.args.self.now.table.items (256 * c.args.state + c.args.byte) known =
    subst (λ b. known ≡ get_or c.args.self.now.table.items (256 * c.args.state + b) known) c.from.ensures c.index-known.ensures in (
      omega (arith, c.if-known-eq-UNKNOWN.false),
      slice_get_read c.args.self.now.table.items (length c.args.self.now.table.items) (256 * c.args.state +
          c.args.byte) known refl within is,
    )
