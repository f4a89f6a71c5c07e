use Rattle.std.proofs.Common.{◌≡◌, ap, subst}
use Rattle.edit_log.specs.History.{Grammar}
use Rattle.live_graph.specs.Sharing.{Shared, means_shared}
use Rattle.sections.specs.Held.{ScansKey}
use Rattle.sections.specs.Asked.{AsksAll}
use Rattle.sections.proofs.TextUses.{scan_uses}
use Rattle.sections.proofs.ShownTexts.{scan_shown}
use Rattle.sections.proofs.texts.scan_text.Goals as goal

pub returns-in-Ok-scanned-clause-uses : goal.returns-in-Ok-scanned-clause-uses
returns-in-Ok-scanned-clause-uses g c =
    let page = g.P.Page.means c.args.page in
    let next = g.P.Page.means c.end-page.result.0 in
    let first = c.in-Ok.graph in
    let graph = c.scan_over-scanned.new.graph in
    let same : first.grammar ≡ c.args.grammar.now.grammar = ap (λ (shared : Shared). shared.grammar) c.in-Ok.ensures.graph in
    scan_uses c.args.grammar.now.grammar page next first graph c.end-page.result.1 c.requires.log c.in-Ok.ensures.graph c.scan_over-scanned.ensures.base
    c.scan_over-scanned.ensures.grammar c.end-page.ensures.page c.end-page.ensures.tallies c.end-page.ensures.ends c.end-page.ensures.graph
    c.args.steps.now c.scan_over-scanned.new.steps c.in-Ok-scanned.ensures.steps
    (ScansKey c.args.grammar.now.grammar c.args.text.now)
    (subst (λ (rules : Grammar). AsksAll (ScansKey rules c.args.text.now) (means_shared first) (means_shared graph)) same c.in-Ok-scanned.ensures.asks)

pub returns-in-Ok-scanned-clause-shown : goal.returns-in-Ok-scanned-clause-shown
returns-in-Ok-scanned-clause-shown g c =
    let first = c.in-Ok.graph in
    let graph = c.scan_over-scanned.new.graph in
    let same : first.grammar ≡ c.args.grammar.now.grammar = ap (λ (shared : Shared). shared.grammar) c.in-Ok.ensures.graph in
    scan_shown c.args.grammar.now.grammar (g.P.Page.means c.args.page) (g.P.Page.means c.end-page.result.0) first graph c.in-Ok.ensures.graph
    c.scan_over-scanned.ensures.base c.scan_over-scanned.ensures.grammar c.end-page.ensures.page c.end-page.ensures.ends
    (ScansKey c.args.grammar.now.grammar c.args.text.now)
    (subst (λ (rules : Grammar). AsksAll (ScansKey rules c.args.text.now) (means_shared first) (means_shared graph)) same c.in-Ok-scanned.ensures.asks)
