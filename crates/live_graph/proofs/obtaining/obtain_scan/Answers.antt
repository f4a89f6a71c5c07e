use Rattle.std.proofs.Common.{◌≡◌, sym, ◌∙◌, subst, None}
use Rattle.row_coding.specs.Rows.{scan}
use Rattle.slot_store.specs.Keys.{row_of}
use Rattle.graph_content.specs.Contents.{FitsLog}
use Rattle.live_graph.specs.Answers.{CodesScan, HasLooked}
use Rattle.live_graph.proofs.RowsOfKeys.{fits, readable_scan, scan_coded}
use Rattle.live_graph.proofs.Comings.{was_read, found_came, offered_came, log_after_look}
use Rattle.live_graph.proofs.obtaining.obtain_scan.Goals as goal

pub find_scan-requires-clause-readable : goal.find_scan-requires-clause-readable
find_scan-requires-clause-readable g c = λ payload row.
    readable_scan (g.P.Page.means c.args.page.now).log c.args.grammar.now.grammar c.requires.log c.args.state.now payload c.is_state.ensures
    (subst (λ k. FitsLog (g.P.Page.means c.args.page.now).log (row_of k payload)) (c.deref.ensures.value ∙ c.in_ok-key.ensures.words) row)

pub returns-in-Some-clause-expansion : goal.returns-in-Some-clause-expansion
returns-in-Some-clause-expansion g c =
    let looked = subst (HasLooked CodesScan (g.P.Page.means c.args.page.now) (g.P.Page.means c.find_scan.new.page) c.deref.result.now) c.in-Some.is
    c.in_ok-expansion.ensures.looks in
    let read = was_read CodesScan c.args.grammar.now.grammar (g.P.Page.means c.args.page.now) (g.P.Page.means c.find_scan.new.page)
    (scan c.args.state.now) c.deref.result.now (c.deref.ensures.value ∙ c.in_ok-key.ensures.words) c.in-Some.expansion looked in
    scan_coded (g.P.Page.means c.args.page.now).log c.args.grammar.now.grammar c.requires.log c.args.state.now read.payload c.in-Some.expansion
    c.is_state.ensures read.fitting read.read.0 read.read.1

pub returns-in-Some-clause-came : goal.returns-in-Some-clause-came
returns-in-Some-clause-came g c =
    let looked = subst (HasLooked CodesScan (g.P.Page.means c.args.page.now) (g.P.Page.means c.find_scan.new.page) c.deref.result.now) c.in-Some.is
    c.in_ok-expansion.ensures.looks in
    found_came CodesScan c.args.grammar.now.grammar (g.P.Page.means c.args.page.now) (g.P.Page.means c.find_scan.new.page)
    (scan c.args.state.now) c.deref.result.now (c.deref.ensures.value ∙ c.in_ok-key.ensures.words) c.in-Some.expansion c.requires.log
    c.is_state.ensures looked

pub offer-origin-requires-clause-fits : goal.offer-origin-requires-clause-fits
offer-origin-requires-clause-fits g c =
    let row = fits (g.P.Page.means c.args.page.now).log c.args.grammar.now.grammar c.requires.log (scan c.args.state.now) c.in_ok-payload.payload.items
    c.is_state.ensures (c.in_ok-expansion-2.expansion, c.in_ok-expansion-2.ensures.expansion, c.in_ok-payload.ensures.words) in
    let log = log_after_look CodesScan (g.P.Page.means c.args.page.now) (g.P.Page.means c.find_scan.new.page) c.deref.result.now c.in_ok-expansion.field-0
    c.in_ok-expansion.ensures.looks in
    subst (λ l. FitsLog l (row_of c.deref-2.result.now c.deref-3.result.now)) (sym log)
    (subst (λ p. FitsLog (g.P.Page.means c.args.page.now).log (row_of c.deref-2.result.now p)) (sym c.deref-3.ensures.value)
    (subst (λ k. FitsLog (g.P.Page.means c.args.page.now).log (row_of k c.in_ok-payload.payload.items))
    (sym (c.deref-2.ensures.value ∙ c.in_ok-key.ensures.words)) row))

pub returns-clause-came : goal.returns-clause-came
returns-clause-came g c =
    let same : c.deref.result.now ≡ c.deref-2.result.now = c.deref.ensures.value ∙ sym c.deref-2.ensures.value in
    let looked = subst (λ k. HasLooked CodesScan (g.P.Page.means c.args.page.now) (g.P.Page.means c.find_scan.new.page) k None) same
    (subst (HasLooked CodesScan (g.P.Page.means c.args.page.now) (g.P.Page.means c.find_scan.new.page) c.deref.result.now) c.in_default.is
    c.in_ok-expansion.ensures.looks) in
    offered_came CodesScan c.args.grammar.now.grammar (g.P.Page.means c.args.page.now) (g.P.Page.means c.find_scan.new.page)
    (g.P.Page.means c.offer-origin.new.page) (scan c.args.state.now) c.deref-2.result.now c.in_ok-payload.payload.items c.deref-3.result.now
    (c.deref-2.ensures.value ∙ c.in_ok-key.ensures.words) c.offer-origin.result c.is_state.ensures
    (c.in_ok-expansion-2.expansion, c.in_ok-expansion-2.ensures.expansion, c.in_ok-payload.ensures.words) c.deref-3.ensures.value looked
    c.offer-origin.ensures
