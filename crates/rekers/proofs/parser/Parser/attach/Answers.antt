use Rattle.rekers.specs.Answers.{kinds_of}
use Rattle.rekers.proofs.LinkedParsers.{attach_sound, linked_to}
use Rattle.rekers.proofs.parser.Parser.attach.Goals as goal

pub returns-clause-link : goal.returns-clause-link
returns-clause-link g c =
    let rules = (g.G.Graph.means c.args._graph.now).grammar.rules in
    let p = c.args.self.now in
    linked_to rules (kinds_of c.args._tokens.now) p c.requires.sound c.args.lower c.args.upper c.args.symbol c.requires.linkable c.requires.upper
    c.requires.unlinked
    c.add_link.new.self p.states.kernels c.args.label c.in_ok-link.link p.spans.spans p.spans.splits p.owners.items c.in_ok-link.ensures.nodes
    c.in_ok-link.ensures.links c.in_ok-link.ensures.number

pub returns-clause-sound : goal.returns-clause-sound
returns-clause-sound g c =
    let rules = (g.G.Graph.means c.args._graph.now).grammar.rules in
    let p = c.args.self.now in
    attach_sound rules (kinds_of c.args._tokens.now) p c.requires.sound c.args.lower c.args.upper c.args.symbol c.requires.linkable c.requires.upper
    c.requires.unlinked
    c.add_link.new.self c.args.label c.stays_flat-self.result c.in_ok-link.ensures.nodes c.in_ok-link.ensures.links c.stays_flat-self.ensures
    (c.requires.label _ c.requires.linkable.node.there)
