-- The next level begins behind all nodes and links.
use Rattle.rekers.specs.Answers.{kinds_of}
use Rattle.rekers.proofs.Advanced.{advanced_to}
use Rattle.rekers.proofs.parser.Parser.advance.Goals as goal

pub returns-clause-sound : goal.returns-clause-sound
returns-clause-sound g c =
    advanced_to (g.G.Graph.means c.args._graph.now).grammar.rules (kinds_of c.args._tokens.now) c.args.self.now c.requires.sound c.push.new.self
    c.node_count.result c.link_count.result c.node_count.ensures c.link_count.ensures c.in_ok-push.ensures.items
