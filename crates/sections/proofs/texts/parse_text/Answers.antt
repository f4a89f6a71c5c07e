use Rattle.std.proofs.Common.{◌≡◌, ap, sym, subst}
use Rattle.edit_log.specs.Facts.{IsWellFormed}
use Rattle.edit_log.specs.History.{Grammar}
use Rattle.live_graph.specs.Sharing.{Shared, means_shared}
use Rattle.sections.specs.Asked.{AsksText}
use Rattle.sections.proofs.EditedLogs.{formed_by_log}
use Rattle.sections.proofs.TextUses.{text_uses}
use Rattle.sections.proofs.ShownTexts.{text_shown}
use Rattle.sections.proofs.texts.parse_text.Goals as goal

pub parse_over-parsed-requires-clause-well_formed : goal.parse_over-parsed-requires-clause-well_formed
parse_over-parsed-requires-clause-well_formed g c =
    subst IsWellFormed (sym (ap (λ (graph : Shared). graph.grammar) c.in-Ok.ensures.graph))
    (formed_by_log (g.P.Page.means c.args.page).log c.args.grammar.now.grammar c.requires.log)

pub returns-in-Ok-parsed-clause-uses : goal.returns-in-Ok-parsed-clause-uses
returns-in-Ok-parsed-clause-uses g c =
    let page = g.P.Page.means c.args.page in
    let next = g.P.Page.means c.end-page.result.0 in
    let first = c.in-Ok.graph in
    let graph = c.parse_over-parsed.new.graph in
    let same : first.grammar ≡ c.args.grammar.now.grammar = ap (λ (shared : Shared). shared.grammar) c.in-Ok.ensures.graph in
    text_uses c.args.grammar.now.grammar page next first graph c.end-page.result.1 c.requires.log c.in-Ok.ensures.graph c.parse_over-parsed.ensures.base
    c.parse_over-parsed.ensures.grammar c.end-page.ensures.page c.end-page.ensures.tallies c.end-page.ensures.ends c.end-page.ensures.graph
    c.args.steps.now c.parse_over-parsed.new.steps c.in-Ok-parsed.ensures.steps
    c.args.text.now c.in-Ok-parsed.outcome
    (subst (λ (rules : Grammar). AsksText rules c.args.text.now c.in-Ok-parsed.outcome (means_shared first) (means_shared graph)) same
    c.in-Ok-parsed.ensures.asks)

pub returns-in-Ok-parsed-clause-shown : goal.returns-in-Ok-parsed-clause-shown
returns-in-Ok-parsed-clause-shown g c =
    let first = c.in-Ok.graph in
    let graph = c.parse_over-parsed.new.graph in
    let same : first.grammar ≡ c.args.grammar.now.grammar = ap (λ (shared : Shared). shared.grammar) c.in-Ok.ensures.graph in
    text_shown c.args.grammar.now.grammar (g.P.Page.means c.args.page) (g.P.Page.means c.end-page.result.0) first graph c.in-Ok.ensures.graph
    c.parse_over-parsed.ensures.base c.parse_over-parsed.ensures.grammar c.end-page.ensures.page c.end-page.ensures.ends
    c.args.text.now c.in-Ok-parsed.outcome
    (subst (λ (rules : Grammar). AsksText rules c.args.text.now c.in-Ok-parsed.outcome (means_shared first) (means_shared graph)) same
    c.in-Ok-parsed.ensures.asks)
