use Rattle.chart_tests.proofs.forests.ask.Goals as goal

pub chart-requires-clause-terminals : goal.chart-requires-clause-terminals
chart-requires-clause-terminals c = c.are_terminals.ensures.0 c.if-not-are_terminals.false
