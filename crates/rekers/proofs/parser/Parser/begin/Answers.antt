-- A text begins with the start state at place 0, and nothing else.
use Rattle.std.proofs.Common.{◌≡◌, length, slice_get, Some, ap, subst, arith}
use Rattle.gss.specs.PlaceGraphs.{PlaceGraph, place_with}
use Rattle.rekers.specs.Answers.{kinds_of}
use Rattle.rekers.proofs.Begun.{begun_by, no_one}
use Rattle.rekers.proofs.parser.Parser.begin.Goals as goal

pub add_node-requires-clause-new : goal.add_node-requires-clause-new
add_node-requires-clause-new g c = λ has.
    no_one has.0 (place_with 0 0) (subst (λ (gr : PlaceGraph). slice_get gr.nodes has.0 ≡ Some (place_with 0 0)) c.clear.ensures has.1)

pub add_node-requires-clause-room : goal.add_node-requires-clause-room
add_node-requires-clause-room g c = omega (arith, ap (λ (gr : PlaceGraph). length gr.nodes) c.clear.ensures)

pub returns-clause-sound : goal.returns-clause-sound
returns-clause-sound g c =
    (begun_by (kinds_of c.args._tokens.now) (g.G.Graph.means c.args.graph.now).grammar (g.G.Graph.means c.start.new.graph).grammar
    c.grammar.result.now.grammar c.in_ok-start.ensures.stands.grammar c.grammar.ensures c.is_formed.ensures c.requires.terminals c.args.self.now
    c.start.new.self c.in_ok-start.ensures.expanded c.in_ok-start.ensures.start c.clear.new.self c.add_node.new.self c.clear.ensures
    c.in_ok-add_node.ensures.nodes c.in_ok-add_node.ensures.links c.clear-2.new.self c.clear-2.ensures c.clear-3.new.self c.clear-3.ensures.items
    c.clear-4.new.self c.push.new.self c.clear-4.ensures.items c.in_ok-push.ensures.items).is_sound

pub returns-clause-placed : goal.returns-clause-placed
returns-clause-placed g c =
    (begun_by (kinds_of c.args._tokens.now) (g.G.Graph.means c.args.graph.now).grammar (g.G.Graph.means c.start.new.graph).grammar
    c.grammar.result.now.grammar c.in_ok-start.ensures.stands.grammar c.grammar.ensures c.is_formed.ensures c.requires.terminals c.args.self.now
    c.start.new.self c.in_ok-start.ensures.expanded c.in_ok-start.ensures.start c.clear.new.self c.add_node.new.self c.clear.ensures
    c.in_ok-add_node.ensures.nodes c.in_ok-add_node.ensures.links c.clear-2.new.self c.clear-2.ensures c.clear-3.new.self c.clear-3.ensures.items
    c.clear-4.new.self c.push.new.self c.clear-4.ensures.items c.in_ok-push.ensures.items).are_placed

pub returns-clause-worked : goal.returns-clause-worked
returns-clause-worked g c =
    (begun_by (kinds_of c.args._tokens.now) (g.G.Graph.means c.args.graph.now).grammar (g.G.Graph.means c.start.new.graph).grammar
    c.grammar.result.now.grammar c.in_ok-start.ensures.stands.grammar c.grammar.ensures c.is_formed.ensures c.requires.terminals c.args.self.now
    c.start.new.self c.in_ok-start.ensures.expanded c.in_ok-start.ensures.start c.clear.new.self c.add_node.new.self c.clear.ensures
    c.in_ok-add_node.ensures.nodes c.in_ok-add_node.ensures.links c.clear-2.new.self c.clear-2.ensures c.clear-3.new.self c.clear-3.ensures.items
    c.clear-4.new.self c.push.new.self c.clear-4.ensures.items c.in_ok-push.ensures.items).is_worked

pub returns-clause-within : goal.returns-clause-within
returns-clause-within g c =
    (begun_by (kinds_of c.args._tokens.now) (g.G.Graph.means c.args.graph.now).grammar (g.G.Graph.means c.start.new.graph).grammar
    c.grammar.result.now.grammar c.in_ok-start.ensures.stands.grammar c.grammar.ensures c.is_formed.ensures c.requires.terminals c.args.self.now
    c.start.new.self c.in_ok-start.ensures.expanded c.in_ok-start.ensures.start c.clear.new.self c.add_node.new.self c.clear.ensures
    c.in_ok-add_node.ensures.nodes c.in_ok-add_node.ensures.links c.clear-2.new.self c.clear-2.ensures c.clear-3.new.self c.clear-3.ensures.items
    c.clear-4.new.self c.push.new.self c.clear-4.ensures.items c.in_ok-push.ensures.items).is_within
