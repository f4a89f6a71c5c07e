use Rattle.std.proofs.Common.{◌≡◌, sym, ◌∙◌, subst, arith}
use Rattle.std.proofs.lemmas.Option.{slice_get_within, same_Some}
use Rattle.live_graph.specs.Asking.{AsksScan}
use Rattle.isg_scan.specs.States.{IsScanTable, KnowsStates}
use Rattle.isg_scan.proofs.AskedKeys.{joined, joined_kept}
use Rattle.isg_scan.proofs.StateTables.{read_at, learned_none, learned_set, led_some, led_none}
use Rattle.isg_scan.proofs.states.States.learn.Goals as goal

pub fill-requires-clause-inside : goal.fill-requires-clause-inside
fill-requires-clause-inside g c =
    let old = g.G.Graph.means c.args.graph.now in
    let key = c.index-as_slice-state.result in
    let there = read_at c.as_slice.result.now c.args.self.now.keys.keys c.args.state key c.as_slice.ensures.keys c.requires.state c.index-as_slice-state.is in
    let same : c.grammar.result.now.grammar ≡ old.grammar = c.grammar.ensures ∙ c.in_ok-low.ensures.stands.grammar in
    let knows = c.in_ok-entry-in-Some.ensures.knows old.scans.keys
    (subst (λ grammar. IsScanTable grammar c.args.self.now.keys.keys old.scans.keys c.args.self.now.table.items) (sym same) c.requires.knows.entries) in
    let within = slice_get_within c.entry_for.new.self.keys.keys c.args.state key (c.in_ok-entry-in-Some.ensures.keeps c.args.state key there) in
    let led = led_some old.grammar key c.args.byte c.in_ok-low.field-0 (c.in-Some.low, c.in-Some.high, c.in-Some.target) c.in_ok-low.ensures.led c.in-Some.is in
    omega (arith, knows.entries.size, within, led.bytes)

pub returns-in_ok-entry-in-Some-clause-asks : goal.returns-in_ok-entry-in-Some-clause-asks
returns-in_ok-entry-in-Some-clause-asks g c = λ key own.
    let there = read_at c.as_slice.result.now c.args.self.now.keys.keys c.args.state c.index-as_slice-state.result c.as_slice.ensures.keys c.requires.state
    c.index-as_slice-state.is in
    subst (λ k. AsksScan (g.G.Graph.means c.args.graph.now) k (g.G.Graph.means c.led.new.graph) c.args.steps.now c.led.new.steps) (same_Some
    c.index-as_slice-state.result key (sym there ∙ own)) c.in_ok-low.ensures.asks

pub returns-in_ok-entry-in-Some-clause-knows : goal.returns-in_ok-entry-in-Some-clause-knows
returns-in_ok-entry-in-Some-clause-knows g c =
    let old = g.G.Graph.means c.args.graph.now in
    let new = g.G.Graph.means c.led.new.graph in
    let self = c.args.self.now in
    let key = c.index-as_slice-state.result in
    let joins = c.in_ok-low.ensures.asks.asks.joins in
    let there = read_at c.as_slice.result.now self.keys.keys c.args.state key c.as_slice.ensures.keys c.requires.state c.index-as_slice-state.is in
    let same : c.grammar.result.now.grammar ≡ old.grammar = c.grammar.ensures ∙ c.in_ok-low.ensures.stands.grammar in
    let led = led_some old.grammar key c.args.byte c.in_ok-low.field-0 (c.in-Some.low, c.in-Some.high, c.in-Some.target) c.in_ok-low.ensures.led c.in-Some.is in
    subst (λ grammar. KnowsStates grammar new.scans.keys c.entry_for.new.self.keys.keys c.entry_for.new.self.accepted.items c.fill.new.table.items) (sym
    c.in_ok-low.ensures.stands.grammar)
    (learned_set old.grammar self.keys.keys old.scans.keys new.scans.keys self.accepted.items self.table.items c.fill.new.table.items c.args.state
    c.args.byte key there
    (joined old.scans.keys key new.scans.keys joins) (joined_kept old.scans.keys key new.scans.keys joins)
    (c.in-Some.low, c.in-Some.high, c.in-Some.target) c.entry_for.new.self.keys.keys c.entry_for.new.self.accepted.items c.entry_for.new.self.table.items
    c.in_ok-entry-in-Some.entry
    c.requires.knows.entries c.in_ok-entry-in-Some.ensures.keeps
    (λ seen is. subst (λ grammar. KnowsStates grammar seen c.entry_for.new.self.keys.keys c.entry_for.new.self.accepted.items
    c.entry_for.new.self.table.items) same
    (c.in_ok-entry-in-Some.ensures.knows seen (subst (λ grammar. IsScanTable grammar self.keys.keys seen self.table.items) (sym same) is)))
    c.in_ok-entry-in-Some.ensures.entry led c.fill.ensures)

pub returns-in-None-clause-asks : goal.returns-in-None-clause-asks
returns-in-None-clause-asks g c = λ key own.
    let there = read_at c.as_slice.result.now c.args.self.now.keys.keys c.args.state c.index-as_slice-state.result c.as_slice.ensures.keys c.requires.state
    c.index-as_slice-state.is in
    subst (λ k. AsksScan (g.G.Graph.means c.args.graph.now) k (g.G.Graph.means c.led.new.graph) c.args.steps.now c.led.new.steps) (same_Some
    c.index-as_slice-state.result key (sym there ∙ own)) c.in_ok-low.ensures.asks

pub returns-in-None-clause-knows : goal.returns-in-None-clause-knows
returns-in-None-clause-knows g c =
    let old = g.G.Graph.means c.args.graph.now in
    let new = g.G.Graph.means c.led.new.graph in
    let self = c.args.self.now in
    let key = c.index-as_slice-state.result in
    let joins = c.in_ok-low.ensures.asks.asks.joins in
    let there = read_at c.as_slice.result.now self.keys.keys c.args.state key c.as_slice.ensures.keys c.requires.state c.index-as_slice-state.is in
    subst (λ grammar. KnowsStates grammar new.scans.keys self.keys.keys self.accepted.items c.fill-in-None.new.table.items)
    (sym c.in_ok-low.ensures.stands.grammar)
    (learned_none old.grammar self.keys.keys old.scans.keys new.scans.keys self.accepted.items self.table.items c.fill-in-None.new.table.items c.args.state
    c.args.byte key there
    (joined old.scans.keys key new.scans.keys joins) (joined_kept old.scans.keys key new.scans.keys joins)
    c.requires.knows c.ranges.byte.fits (led_none old.grammar key c.args.byte c.in_ok-low.field-0 c.in_ok-low.ensures.led c.in-None.is) c.fill-in-None.ensures)
