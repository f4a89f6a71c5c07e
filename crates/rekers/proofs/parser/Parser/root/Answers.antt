use Rattle.std.proofs.Common.{sym, subst}
use Rattle.packed_spans.specs.Complete.{IsComplete}
use Rattle.rekers.specs.Answers.{kinds_of}
use Rattle.rekers.proofs.AtEnd.{IsAtEnd, rooted, rooted_token}
use Rattle.rekers.proofs.parser.Parser.root.Goals as goal

pub returns-then-label : goal.returns-then-label
returns-then-label g c =
    let rules = (g.G.Graph.means c.args._graph.now).grammar.rules in
    let end : IsAtEnd rules c.args._tokens.now c.args.self.now =
    record { sound = c.requires.sound; worked = c.requires.worked; shifted = c.requires.shifted; at = c.requires.at } in
    rooted rules c.args._tokens.now c.args.self.now end c.args.link c.requires.link c.edge-label.result c.edge-label.ensures c.if-label.true

pub returns : goal.returns
returns g c =
    let rules = (g.G.Graph.means c.args._graph.now).grammar.rules in
    let end : IsAtEnd rules c.args._tokens.now c.args.self.now =
    record { sound = c.requires.sound; worked = c.requires.worked; shifted = c.requires.shifted; at = c.requires.at } in
    subst (λ n. IsComplete rules (kinds_of c.args._tokens.now) c.add_span.new.self n) (sym c.in_ok-root.ensures.number)
    (rooted_token rules c.args._tokens.now c.args.self.now end c.args.link c.requires.link c.edge-label.result c.edge-label.ensures c.if-label.false
    c.add_span.new.self c.in_ok-root.ensures.spans c.in_ok-root.ensures.splits)
