-- The shift of a token: the level is left, and its nodes are shifted to the next one.
use Rattle.std.proofs.Common.{ap}
use Rattle.std.proofs.lemmas.Result.{err_from_is_err_and}
use Rattle.edit_log.specs.History.{Grammar}
use Rattle.rekers.specs.Answers.{kinds_of}
use Rattle.rekers.proofs.Unless.{unless_on}
use Rattle.rekers.proofs.LevelShifted.{advance_within, nodes_before, no_links, shift_grows, shift_placed, shift_asks, shift_at, shift_worked, shift_shifted}
use Rattle.rekers.proofs.Unless.{unless_memory}
use Rattle.rekers.proofs.parser.Parser.shift.Goals as goal

pub shift_nodes-requires-clause-within : goal.shift_nodes-requires-clause-within
shift_nodes-requires-clause-within g c =
    advance_within (g.G.Graph.means c.args.graph.now).grammar.rules (kinds_of c.args.tokens.now) c.args.self.now c.advance.new.self c.requires.sound
    c.in_ok-advance.ensures.same c.in_ok-advance.ensures.level c.requires.within

pub shift_nodes-requires-clause-first : goal.shift_nodes-requires-clause-first
shift_nodes-requires-clause-first g c =
    nodes_before (g.G.Graph.means c.args.graph.now).grammar.rules (kinds_of c.args.tokens.now) c.args.self.now c.advance.new.self c.requires.sound
    c.in_ok-advance.ensures.same c.in_ok-advance.ensures.level

pub shift_nodes-requires-clause-kind : goal.shift_nodes-requires-clause-kind
shift_nodes-requires-clause-kind g c = (c.args.self.now.level.at, c.in_ok-advance.ensures.level.at, c.requires.kind)

pub shift_nodes-requires-clause-links : goal.shift_nodes-requires-clause-links
shift_nodes-requires-clause-links g c =
    no_links (g.G.Graph.means c.args.graph.now).grammar.rules (kinds_of c.args.tokens.now) c.args.self.now c.advance.new.self c.requires.sound
    c.in_ok-advance.ensures.same c.in_ok-advance.ensures.level

pub returns-in_err-advance-clause-sound : goal.returns-in_err-advance-clause-sound
returns-in_err-advance-clause-sound g c =
    unless_memory _ c.from_residual.result (err_from_is_err_and c.from_residual.result c.from_residual.ensures.1)

pub returns-in_err-advance-clause-placed : goal.returns-in_err-advance-clause-placed
returns-in_err-advance-clause-placed g c =
    unless_memory _ c.from_residual.result (err_from_is_err_and c.from_residual.result c.from_residual.ensures.1)

pub returns-in_err-advance-clause-grows : goal.returns-in_err-advance-clause-grows
returns-in_err-advance-clause-grows g c =
    unless_memory _ c.from_residual.result (err_from_is_err_and c.from_residual.result c.from_residual.ensures.1)

pub returns-in_err-advance-clause-asks : goal.returns-in_err-advance-clause-asks
returns-in_err-advance-clause-asks g c =
    unless_memory _ c.from_residual.result (err_from_is_err_and c.from_residual.result c.from_residual.ensures.1)

pub returns-in_err-shift_nodes-clause-sound : goal.returns-in_err-shift_nodes-clause-sound
returns-in_err-shift_nodes-clause-sound g c =
    unless_on c.in_err-shift_nodes.field-0.0 c.from_residual-in_err-shift_nodes.result
    (err_from_is_err_and c.from_residual-in_err-shift_nodes.result c.from_residual-in_err-shift_nodes.ensures.1) (λ step. step.sound)
    c.in_err-shift_nodes.ensures.step

pub returns-in_err-shift_nodes-clause-placed : goal.returns-in_err-shift_nodes-clause-placed
returns-in_err-shift_nodes-clause-placed g c =
    unless_on c.in_err-shift_nodes.field-0.0 c.from_residual-in_err-shift_nodes.result
    (err_from_is_err_and c.from_residual-in_err-shift_nodes.result c.from_residual-in_err-shift_nodes.ensures.1)
    (λ step. shift_placed (g.G.Graph.means c.args.graph.now).grammar.rules (kinds_of c.args.tokens.now) c.args.self.now c.advance.new.self c.requires.sound
    c.in_ok-advance.ensures.same c.in_ok-advance.ensures.level c.shift_nodes.new.self (g.G.Graph.means c.args.graph.now)
    (g.G.Graph.means c.shift_nodes.new.graph) c.args.steps.now c.shift_nodes.new.steps step)
    c.in_err-shift_nodes.ensures.step

pub returns-in_err-shift_nodes-clause-grows : goal.returns-in_err-shift_nodes-clause-grows
returns-in_err-shift_nodes-clause-grows g c =
    unless_on c.in_err-shift_nodes.field-0.0 c.from_residual-in_err-shift_nodes.result
    (err_from_is_err_and c.from_residual-in_err-shift_nodes.result c.from_residual-in_err-shift_nodes.ensures.1)
    (λ step. shift_grows (g.G.Graph.means c.args.graph.now).grammar.rules (kinds_of c.args.tokens.now) c.args.self.now c.advance.new.self c.requires.sound
    c.in_ok-advance.ensures.same c.in_ok-advance.ensures.level c.shift_nodes.new.self (g.G.Graph.means c.args.graph.now)
    (g.G.Graph.means c.shift_nodes.new.graph) c.args.steps.now c.shift_nodes.new.steps step)
    c.in_err-shift_nodes.ensures.step

pub returns-in_err-shift_nodes-clause-asks : goal.returns-in_err-shift_nodes-clause-asks
returns-in_err-shift_nodes-clause-asks g c =
    unless_on c.in_err-shift_nodes.field-0.0 c.from_residual-in_err-shift_nodes.result
    (err_from_is_err_and c.from_residual-in_err-shift_nodes.result c.from_residual-in_err-shift_nodes.ensures.1)
    (λ step. shift_asks (g.G.Graph.means c.args.graph.now).grammar.rules (kinds_of c.args.tokens.now) c.args.self.now c.advance.new.self c.requires.sound
    c.in_ok-advance.ensures.same c.in_ok-advance.ensures.level c.shift_nodes.new.self (g.G.Graph.means c.args.graph.now)
    (g.G.Graph.means c.shift_nodes.new.graph) c.args.steps.now c.shift_nodes.new.steps step)
    c.in_err-shift_nodes.ensures.step

pub returns-clause-placed : goal.returns-clause-placed
returns-clause-placed g c =
    shift_placed (g.G.Graph.means c.args.graph.now).grammar.rules (kinds_of c.args.tokens.now) c.args.self.now c.advance.new.self c.requires.sound
    c.in_ok-advance.ensures.same c.in_ok-advance.ensures.level c.shift_nodes.new.self (g.G.Graph.means c.args.graph.now)
    (g.G.Graph.means c.shift_nodes.new.graph) c.args.steps.now c.shift_nodes.new.steps c.in_ok-shift_nodes.ensures.step

pub returns-clause-grows : goal.returns-clause-grows
returns-clause-grows g c =
    shift_grows (g.G.Graph.means c.args.graph.now).grammar.rules (kinds_of c.args.tokens.now) c.args.self.now c.advance.new.self c.requires.sound
    c.in_ok-advance.ensures.same c.in_ok-advance.ensures.level c.shift_nodes.new.self (g.G.Graph.means c.args.graph.now)
    (g.G.Graph.means c.shift_nodes.new.graph) c.args.steps.now c.shift_nodes.new.steps c.in_ok-shift_nodes.ensures.step

pub returns-clause-asks : goal.returns-clause-asks
returns-clause-asks g c =
    shift_asks (g.G.Graph.means c.args.graph.now).grammar.rules (kinds_of c.args.tokens.now) c.args.self.now c.advance.new.self c.requires.sound
    c.in_ok-advance.ensures.same c.in_ok-advance.ensures.level c.shift_nodes.new.self (g.G.Graph.means c.args.graph.now)
    (g.G.Graph.means c.shift_nodes.new.graph) c.args.steps.now c.shift_nodes.new.steps c.in_ok-shift_nodes.ensures.step

pub returns-clause-at : goal.returns-clause-at
returns-clause-at g c =
    shift_at (g.G.Graph.means c.args.graph.now).grammar.rules (kinds_of c.args.tokens.now) c.args.self.now c.advance.new.self c.requires.sound
    c.in_ok-advance.ensures.same c.in_ok-advance.ensures.level c.shift_nodes.new.self (g.G.Graph.means c.args.graph.now)
    (g.G.Graph.means c.shift_nodes.new.graph) c.args.steps.now c.shift_nodes.new.steps c.in_ok-shift_nodes.ensures.step

pub returns-clause-worked : goal.returns-clause-worked
returns-clause-worked g c =
    shift_worked (g.G.Graph.means c.args.graph.now).grammar.rules (kinds_of c.args.tokens.now) c.args.self.now c.advance.new.self c.requires.sound
    c.in_ok-advance.ensures.same c.in_ok-advance.ensures.level c.shift_nodes.new.self (g.G.Graph.means c.args.graph.now)
    (g.G.Graph.means c.shift_nodes.new.graph) c.args.steps.now c.shift_nodes.new.steps c.in_ok-shift_nodes.ensures.step
    (ap (λ (gr : Grammar). gr.rules) c.in_ok-shift_nodes.ensures.stands.grammar) c.in_ok-shift_nodes.ensures.splits c.requires.worked

pub returns-clause-shifted : goal.returns-clause-shifted
returns-clause-shifted g c =
    shift_shifted (g.G.Graph.means c.args.graph.now).grammar.rules (kinds_of c.args.tokens.now) c.args.self.now c.advance.new.self c.requires.sound
    c.in_ok-advance.ensures.same c.in_ok-advance.ensures.level c.shift_nodes.new.self (g.G.Graph.means c.args.graph.now)
    (g.G.Graph.means c.shift_nodes.new.graph) c.args.steps.now c.shift_nodes.new.steps c.in_ok-shift_nodes.ensures.step
    (ap (λ (gr : Grammar). gr.rules) c.in_ok-shift_nodes.ensures.stands.grammar) c.in_ok-shift_nodes.ensures.splits c.requires.shifted c.args.kind
    c.requires.kind c.in_ok-shift_nodes.ensures.shifted
