-- The parse: all levels, and the answer at their end.
use Rattle.std.proofs.Common.{subst}
use Rattle.std.proofs.lemmas.Result.{err_from_is_err_and}
use Rattle.rekers.specs.Answers.{kinds_of, TellsForest, TellsNoSentence}
use Rattle.rekers.proofs.LevelsDone.{done_in, rules_in, parse_within, parse_asks, parse_steps, parse_too_large, parse_asks_some}
use Rattle.rekers.proofs.parser.Parser.parse.Goals as goal

pub returns-in_err-levels-clause-too_large : goal.returns-in_err-levels-clause-too_large
returns-in_err-levels-clause-too_large g c =
    parse_too_large c.args.tokens.now (g.G.Graph.means c.args.graph.now) (g.G.Graph.means c.levels.new.graph) c.args.steps.now c.levels.new.steps
    c.levels.new.self c.in_err-levels.field-0.0 c.from_residual.result
    (err_from_is_err_and c.from_residual.result c.from_residual.ensures.1) c.in_err-levels.ensures.stopped

pub returns-in_err-levels-clause-asked_some : goal.returns-in_err-levels-clause-asked_some
returns-in_err-levels-clause-asked_some g c =
    parse_asks_some c.args.tokens.now (g.G.Graph.means c.args.graph.now) (g.G.Graph.means c.levels.new.graph) c.args.steps.now c.levels.new.steps
    c.levels.new.self c.in_err-levels.field-0.0 c.from_residual.result
    (err_from_is_err_and c.from_residual.result c.from_residual.ensures.1) c.in_err-levels.ensures.stopped
    c.in_err-levels.ensures.asks

pub returns-in_err-levels-clause-steps : goal.returns-in_err-levels-clause-steps
returns-in_err-levels-clause-steps g c =
    parse_steps c.args.tokens.now (g.G.Graph.means c.args.graph.now) (g.G.Graph.means c.levels.new.graph) c.args.steps.now c.levels.new.steps
    c.levels.new.self c.in_err-levels.field-0.0 c.from_residual.result
    (err_from_is_err_and c.from_residual.result c.from_residual.ensures.1) c.in_err-levels.ensures.asks

pub answer-requires-clause-sound : goal.answer-requires-clause-sound
answer-requires-clause-sound g c =
    (done_in (kinds_of c.args.tokens.now) c.levels.new.self _ c.in_ok-levels.ensures.stands c.in_ok-levels.ensures.done).sound

pub answer-requires-clause-worked : goal.answer-requires-clause-worked
answer-requires-clause-worked g c =
    (done_in (kinds_of c.args.tokens.now) c.levels.new.self _ c.in_ok-levels.ensures.stands c.in_ok-levels.ensures.done).worked

pub answer-requires-clause-shifted : goal.answer-requires-clause-shifted
answer-requires-clause-shifted g c =
    (done_in (kinds_of c.args.tokens.now) c.levels.new.self _ c.in_ok-levels.ensures.stands c.in_ok-levels.ensures.done).shifted

pub answer-requires-clause-at : goal.answer-requires-clause-at
answer-requires-clause-at g c = c.in_ok-levels.ensures.done.at_is

pub returns-clause-forest : goal.returns-clause-forest
returns-clause-forest g c =
    subst (λ rs. TellsForest rs (kinds_of c.args.tokens.now) c.in_ok-parsed.parsed) (rules_in c.in_ok-levels.ensures.stands) c.in_ok-parsed.ensures.forest

pub returns-clause-no_sentence : goal.returns-clause-no_sentence
returns-clause-no_sentence g c =
    subst (λ rs. TellsNoSentence rs (kinds_of c.args.tokens.now) c.in_ok-parsed.parsed) (rules_in c.in_ok-levels.ensures.stands)
    c.in_ok-parsed.ensures.no_sentence

pub returns-clause-within : goal.returns-clause-within
returns-clause-within g c =
    parse_within c.args.tokens.now (g.G.Graph.means c.args.graph.now) (g.G.Graph.means c.levels.new.graph) c.args.steps.now c.levels.new.steps
    c.levels.new.self c.in_ok-levels.ensures.done

pub returns-clause-asked : goal.returns-clause-asked
returns-clause-asked g c =
    parse_asks c.args.tokens.now (g.G.Graph.means c.args.graph.now) (g.G.Graph.means c.levels.new.graph) c.args.steps.now c.levels.new.steps
    c.levels.new.self c.in_ok-levels.ensures.done c.in_ok-levels.ensures.asks

pub returns-clause-steps : goal.returns-clause-steps
returns-clause-steps g c = c.in_ok-levels.ensures.asks.rises
