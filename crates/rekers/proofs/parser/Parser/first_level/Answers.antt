-- The first level: it is begun, and its reductions are made.
use Rattle.std.proofs.Common.{[]}
use Rattle.std.proofs.lemmas.Result.{err_from_is_err_and}
use Rattle.rekers.specs.Answers.{kinds_of}
use Rattle.rekers.proofs.LevelSteps.{keeps_none}
use Rattle.rekers.proofs.LevelsDone.{IsLevelBegun, sound_in, shifted_none, stopped_reducing, asks_reducing, asks_reduced, level_done}
use Rattle.rekers.proofs.parser.Parser.first_level.Goals as goal

pub returns-in_err-reduce_level-clause-stopped : goal.returns-in_err-reduce_level-clause-stopped
returns-in_err-reduce_level-clause-stopped g c =
    stopped_reducing (kinds_of c.args.tokens.now) (g.G.Graph.means c.args.graph.now) (g.G.Graph.means c.begin.new.graph)
    (g.G.Graph.means c.reduce_level.new.graph) c.begin.new.steps c.reduce_level.new.steps c.begin.new.self c.reduce_level.new.self
    c.in_ok-begin.ensures.stands c.in_err-reduce_level.ensures.stands c.in_err-reduce_level.field-0.0 c.from_residual-in_err-reduce_level.result
    (err_from_is_err_and c.from_residual-in_err-reduce_level.result c.from_residual-in_err-reduce_level.ensures.1) c.in_ok-begin.ensures.placed
    c.in_err-reduce_level.ensures.step c.in_err-reduce_level.ensures.above

pub returns-in_err-reduce_level-clause-asks : goal.returns-in_err-reduce_level-clause-asks
returns-in_err-reduce_level-clause-asks g c =
    asks_reducing (kinds_of c.args.tokens.now) (g.G.Graph.means c.args.graph.now) (g.G.Graph.means c.begin.new.graph)
    (g.G.Graph.means c.reduce_level.new.graph) c.begin.new.steps c.reduce_level.new.steps c.begin.new.self c.reduce_level.new.self
    c.in_ok-begin.ensures.stands c.in_err-reduce_level.ensures.stands c.in_err-reduce_level.field-0.0 c.from_residual-in_err-reduce_level.result
    (err_from_is_err_and c.from_residual-in_err-reduce_level.result c.from_residual-in_err-reduce_level.ensures.1) [] c.args.steps.now
    (keeps_none c.begin.new.self.states.kernels) c.in_ok-begin.ensures.asks c.in_err-reduce_level.ensures.step

pub returns-clause-done : goal.returns-clause-done
returns-clause-done g c =
    let rules = (g.G.Graph.means c.args.graph.now).grammar.rules in
    let begun : IsLevelBegun rules (kinds_of c.args.tokens.now) c.begin.new.self = record {
      sound = sound_in (kinds_of c.args.tokens.now) c.begin.new.self c.in_ok-begin.ensures.stands c.in_ok-begin.ensures.sound;
      placed = c.in_ok-begin.ensures.placed;
      shifted = shifted_none rules (kinds_of c.args.tokens.now) c.begin.new.self c.in_ok-begin.ensures.at;
    } in
    level_done (kinds_of c.args.tokens.now) (g.G.Graph.means c.args.graph.now) (g.G.Graph.means c.begin.new.graph)
    (g.G.Graph.means c.reduce_level.new.graph) c.begin.new.steps c.reduce_level.new.steps c.begin.new.self c.reduce_level.new.self
    c.in_ok-begin.ensures.stands c.in_ok-reduce_level.ensures.stands begun 0 c.in_ok-begin.ensures.at c.in_ok-reduce_level.ensures.step
    c.in_ok-reduce_level.ensures.worked c.in_ok-reduce_level.ensures.within

pub returns-clause-asks : goal.returns-clause-asks
returns-clause-asks g c =
    asks_reduced (kinds_of c.args.tokens.now) (g.G.Graph.means c.args.graph.now) (g.G.Graph.means c.begin.new.graph)
    (g.G.Graph.means c.reduce_level.new.graph) c.begin.new.steps c.reduce_level.new.steps c.begin.new.self c.reduce_level.new.self
    c.in_ok-begin.ensures.stands c.in_ok-reduce_level.ensures.stands [] c.args.steps.now
    (keeps_none c.begin.new.self.states.kernels) c.in_ok-begin.ensures.asks c.in_ok-reduce_level.ensures.step
