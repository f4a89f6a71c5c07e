use Rattle.sections_tests.proofs.Asks.{kernel_grammar, kernel_base}
use Rattle.sections_tests.proofs.graphs.told_start.Goals as goal

pub returns-clause-grammar : goal.returns-clause-grammar
returns-clause-grammar g c =
    kernel_grammar (g.G.Graph.means c.args.graph.now) (g.G.Graph.means c.expansion.follows.lender-at-none) c.args.steps.now c.expansion.new.steps
    c.expansion.result c.in_ok-expansion.expansion c.in_ok-expansion.was c.start_of-kernel.result c.expansion.follows.holds-at-none.0

pub returns-clause-base : goal.returns-clause-base
returns-clause-base g c =
    kernel_base (g.G.Graph.means c.args.graph.now) (g.G.Graph.means c.expansion.follows.lender-at-none) c.args.steps.now c.expansion.new.steps
    c.expansion.result c.in_ok-expansion.expansion c.in_ok-expansion.was c.start_of-kernel.result c.expansion.follows.holds-at-none.0
