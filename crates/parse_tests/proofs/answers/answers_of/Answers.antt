use Rattle.std.proofs.Common.{◌∙◌, refl, sym, subst}
use Rattle.forest.specs.Derivation.{AreTerminals}
use Rattle.parse_tests.proofs.answers.answers_of.Goals as goal

pub ask_chart-requires : goal.ask_chart-requires
ask_chart-requires g c =
    subst (AreTerminals (g.G.Graph.means c.args.graph.now).grammar.rules) (c.deref.ensures.value ∙ sym c.deref-2.ensures.value) (c.if-not-may_ask.ensures refl)

pub ask_parser-requires-clause-terminals : goal.ask_parser-requires-clause-terminals
ask_parser-requires-clause-terminals g c =
    subst (AreTerminals (g.G.Graph.means c.args.graph.now).grammar.rules) (c.deref.ensures.value ∙ c.in_ok-kinds.ensures) (c.if-not-may_ask.ensures refl)
