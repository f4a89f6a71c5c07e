use Rattle.std.proofs.Common.{◌≡◌, List, IfSome, Contains, subst}
use Rattle.isg_states.specs.Expansion.{Range}
use Rattle.sections_tests.proofs.Asks.{scan_grammar, scan_base, found_marks}
use Rattle.sections_tests.proofs.graphs.told_leading.Goals as goal

pub returns-clause-grammar : goal.returns-clause-grammar
returns-clause-grammar g c =
    scan_grammar (g.G.Graph.means c.args.graph.now) (g.G.Graph.means c.scan.follows.lender-at-none) c.args.steps.now c.scan.new.steps c.scan.result
    c.in_ok-expansion.expansion c.in_ok-expansion.was c.args.key.now c.scan.follows.holds-at-none.0

pub returns-clause-base : goal.returns-clause-base
returns-clause-base g c =
    scan_base (g.G.Graph.means c.args.graph.now) (g.G.Graph.means c.scan.follows.lender-at-none) c.args.steps.now c.scan.new.steps c.scan.result
    c.in_ok-expansion.expansion c.in_ok-expansion.was c.args.key.now c.scan.follows.holds-at-none.0

pub returns-clause-marks : goal.returns-clause-marks
returns-clause-marks g c =
    found_marks (g.G.Graph.means c.args.graph.now).grammar c.args.key.now c.in_ok-expansion.expansion.now.ranges c.in_ok-expansion.ensures.expansion
    c.in_ok-found.found
    (subst (λ (ranges : List Range). IfSome c.in_ok-found.found (λ k. (range : Range) × Contains ranges range
    × (k ≡ range.2))) c.as_slice.ensures c.in_ok-found.ensures)
