use Rattle.std.proofs.Common.{◌∙◌, ap, subst}
use Rattle.edit_log.specs.History.{Grammar}
use Rattle.forest.specs.Derivation.{AreTerminals}
use Rattle.parse_tests.proofs.answers.may_ask.Goals as goal

pub returns : goal.returns
returns g c = λ holds.
    subst (λ rules. AreTerminals rules c.args.kinds.now) (c.rules.ensures.rules ∙ ap (λ (grammar : Grammar). grammar.rules) c.grammar.ensures)
    (c.are_terminals.ensures.0 holds)
