use Rattle.std.proofs.Common.{◌≡◌, ◌-◌, ◌<◌, suc, length, arith}
use Rattle.std.proofs.lemmas.Option.{slice_get_within}
use Rattle.rekers.specs.Answers.{kinds_of}
use Rattle.rekers.proofs.Growth.{node_below}
use Rattle.rekers.proofs.AtEnd.{IsAtEnd, not_there}
use Rattle.rekers.proofs.parser.Parser.answer.Goals as goal

pub returns-in_default-clause-no_sentence : goal.returns-in_default-clause-no_sentence
returns-in_default-clause-no_sentence g c =
    let rules = (g.G.Graph.means c.args._graph.now).grammar.rules in
    let end : IsAtEnd rules c.args._tokens.now c.args.self.now =
    record { sound = c.requires.sound; worked = c.requires.worked; shifted = c.requires.shifted; at = c.requires.at } in
    let some : 0 < length c.args.self.now.stacks.nodes = node_below c.requires.sound.graph.begun in
    let count : length c.args.self.now.stacks.nodes ≡ suc (c.node_count.result - 1) = omega (arith, some, c.node_count.ensures) in
    not_there rules c.args._tokens.now c.args.self.now end c.in_default.ensures.none (c.node_count.result - 1) c.place.result c.place.ensures count

pub forest-requires-clause-root : goal.forest-requires-clause-root
forest-requires-clause-root g c = slice_get_within c.root.new.self.spans.spans c.in_ok-root.root _ c.in_ok-root.ensures.text

pub returns-clause-forest : goal.returns-clause-forest
returns-clause-forest g c =
    c.in_ok-forest.ensures.forest (g.G.Graph.means c.args._graph.now).grammar.rules (kinds_of c.args._tokens.now) c.in_ok-root.ensures
