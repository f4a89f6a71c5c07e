use Rattle.std.proofs.Common.{◌∙◌, ap, sym, subst}
use Rattle.edit_log.specs.History.{Grammar}
use Rattle.forest.specs.Derivation.{AreTerminals}
use Rattle.parse_tests.proofs.answers.ask_chart.Goals as goal

pub chart-requires-clause-terminals : goal.chart-requires-clause-terminals
chart-requires-clause-terminals g c =
    subst (λ rules. AreTerminals rules c.args.kinds.now) (sym (c.rules.ensures.rules ∙ ap (λ (grammar : Grammar). grammar.rules) c.grammar.ensures))
    c.requires
