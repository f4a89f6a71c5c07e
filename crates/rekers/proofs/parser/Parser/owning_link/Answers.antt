-- The link that makes a span is there, or is added.
use Rattle.rekers.specs.Answers.{kinds_of}
use Rattle.rekers.proofs.Stepping.{step_none}
use Rattle.rekers.proofs.LinkSteps.{link_found}
use Rattle.rekers.proofs.parser.Parser.owning_link.Goals as goal

pub returns-in-Some-clause-link : goal.returns-in-Some-clause-link
returns-in-Some-clause-link g c =
    link_found (g.G.Graph.means c.args.graph.now).grammar.rules (kinds_of c.args.tokens.now) c.args.self.now c.requires.sound c.requires.nonterminal
    c.in-Some.ensures.newest.is

pub returns-in-Some-clause-step : goal.returns-in-Some-clause-step
returns-in-Some-clause-step g c = step_none (kinds_of c.args.tokens.now) c.args.self.now (g.G.Graph.means c.args.graph.now) c.args.steps.now c.requires.sound
