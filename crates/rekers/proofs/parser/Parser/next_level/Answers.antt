-- The next level: the token is shifted to it, and its reductions are made.
use Rattle.std.proofs.Common.{◌+◌}
use Rattle.std.proofs.lemmas.Result.{err_from_is_err_and}
use Rattle.rekers.specs.Answers.{kinds_of}
use Rattle.rekers.specs.Found.{found}
use Rattle.rekers.specs.Sound.{IsSoundParser, ArePlaced}
use Rattle.rekers.proofs.LevelsDone.{IsLevelBegun, sound_in, stopped_by, stopped_reducing, asks_reducing, kernels_reducing, asks_reduced, level_done}
use Rattle.rekers.proofs.parser.Parser.next_level.Goals as goal

pub returns-in_err-shift-clause-stopped : goal.returns-in_err-shift-clause-stopped
returns-in_err-shift-clause-stopped g c =
    let tokens = kinds_of c.args.tokens.now in
    let rules = (g.G.Graph.means c.args.graph.now).grammar.rules in
    stopped_by {P = IsSoundParser (g.G.Graph.means c.shift.new.graph).grammar.rules tokens c.shift.new.self}
    {Q = ArePlaced (found c.args.self.now) → ArePlaced (found c.shift.new.self)} rules tokens c.shift.new.self c.in_err-shift.field-0.0
    c.from_residual.result (err_from_is_err_and c.from_residual.result c.from_residual.ensures.1)
    (sound_in tokens c.shift.new.self c.in_err-shift.ensures.stands) (λ placed. placed c.requires.done.placed) c.in_err-shift.ensures.sound
    c.in_err-shift.ensures.placed c.in_err-shift.ensures.above

pub returns-in_err-reduce_level-clause-stopped : goal.returns-in_err-reduce_level-clause-stopped
returns-in_err-reduce_level-clause-stopped g c =
    stopped_reducing (kinds_of c.args.tokens.now) (g.G.Graph.means c.args.graph.now) (g.G.Graph.means c.shift.new.graph)
    (g.G.Graph.means c.reduce_level.new.graph) c.shift.new.steps c.reduce_level.new.steps c.shift.new.self c.reduce_level.new.self
    c.in_ok-shift.ensures.stands c.in_err-reduce_level.ensures.stands c.in_err-reduce_level.field-0.0 c.from_residual-in_err-reduce_level.result
    (err_from_is_err_and c.from_residual-in_err-reduce_level.result c.from_residual-in_err-reduce_level.ensures.1)
    (c.in_ok-shift.ensures.placed c.requires.done.placed) c.in_err-reduce_level.ensures.step c.in_err-reduce_level.ensures.above

pub returns-in_err-reduce_level-clause-asks : goal.returns-in_err-reduce_level-clause-asks
returns-in_err-reduce_level-clause-asks g c =
    asks_reducing (kinds_of c.args.tokens.now) (g.G.Graph.means c.args.graph.now) (g.G.Graph.means c.shift.new.graph)
    (g.G.Graph.means c.reduce_level.new.graph) c.shift.new.steps c.reduce_level.new.steps c.shift.new.self c.reduce_level.new.self
    c.in_ok-shift.ensures.stands c.in_err-reduce_level.ensures.stands c.in_err-reduce_level.field-0.0 c.from_residual-in_err-reduce_level.result
    (err_from_is_err_and c.from_residual-in_err-reduce_level.result c.from_residual-in_err-reduce_level.ensures.1) c.args.self.now.states.kernels
    c.args.steps.now c.in_ok-shift.ensures.grows.kernels c.in_ok-shift.ensures.asks c.in_err-reduce_level.ensures.step

pub returns-in_err-reduce_level-clause-kernels : goal.returns-in_err-reduce_level-clause-kernels
returns-in_err-reduce_level-clause-kernels g c =
    kernels_reducing (kinds_of c.args.tokens.now) (g.G.Graph.means c.args.graph.now) (g.G.Graph.means c.shift.new.graph)
    (g.G.Graph.means c.reduce_level.new.graph) c.shift.new.steps c.reduce_level.new.steps c.shift.new.self c.reduce_level.new.self
    c.in_ok-shift.ensures.stands c.in_err-reduce_level.ensures.stands c.in_err-reduce_level.field-0.0 c.from_residual-in_err-reduce_level.result
    (err_from_is_err_and c.from_residual-in_err-reduce_level.result c.from_residual-in_err-reduce_level.ensures.1) c.args.self.now.states.kernels
    c.in_ok-shift.ensures.grows.kernels c.in_err-reduce_level.ensures.step

pub returns-clause-done : goal.returns-clause-done
returns-clause-done g c =
    let tokens = kinds_of c.args.tokens.now in
    let rules = (g.G.Graph.means c.args.graph.now).grammar.rules in
    let begun : IsLevelBegun rules tokens c.shift.new.self = record {
      sound = sound_in tokens c.shift.new.self c.in_ok-shift.ensures.stands c.in_ok-shift.ensures.sound;
      placed = c.in_ok-shift.ensures.placed c.requires.done.placed;
      shifted = c.in_ok-shift.ensures.shifted;
    } in
    level_done tokens (g.G.Graph.means c.args.graph.now) (g.G.Graph.means c.shift.new.graph)
    (g.G.Graph.means c.reduce_level.new.graph) c.shift.new.steps c.reduce_level.new.steps c.shift.new.self c.reduce_level.new.self
    c.in_ok-shift.ensures.stands c.in_ok-reduce_level.ensures.stands begun (c.args.self.now.level.at + 1) c.in_ok-shift.ensures.at
    c.in_ok-reduce_level.ensures.step c.in_ok-reduce_level.ensures.worked c.in_ok-reduce_level.ensures.within

pub returns-clause-asks : goal.returns-clause-asks
returns-clause-asks g c =
    asks_reduced (kinds_of c.args.tokens.now) (g.G.Graph.means c.args.graph.now) (g.G.Graph.means c.shift.new.graph)
    (g.G.Graph.means c.reduce_level.new.graph) c.shift.new.steps c.reduce_level.new.steps c.shift.new.self c.reduce_level.new.self
    c.in_ok-shift.ensures.stands c.in_ok-reduce_level.ensures.stands c.args.self.now.states.kernels c.args.steps.now
    c.in_ok-shift.ensures.grows.kernels c.in_ok-shift.ensures.asks c.in_ok-reduce_level.ensures.step
